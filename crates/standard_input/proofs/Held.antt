-- What is there after one read more, where a reader's bytes are known. Assumes nothing.
use Rattle.std.proofs.Common.{◌≡◌, ℕ, ◌+◌, ◌-◌, ◌<◌, ◌≤◌, List, [], ◌++◌, length, take, drop, Bool, true, false, Result, Ok, Err, IfOk, refl, sym, ap, subst, ◌∙◌, arith, length-take-le}
use borrow.Author.Tests.{eqb-true, eqb-false}
use borrow.Rule.Slice.PartMut.{put_mid, post_of, take_put}
use lib.Dec.{eqb}
use lib.Seq.{take-append-add, take-append-le}
use Rattle.std.specs.IoError.{error_kind}
use Rattle.std_io.specs.declared.io.error.Error.{Error}
use Rattle.std.specs.declared.option.Option.{Option}
use Rattle.std.specs.Io.{ReadsAtMost}
use Rattle.std.specs.Io.KnownBytes.{Consumes, Keeps, IsAtEnd, ReadConsumes}
use Rattle.std.proofs.KnownBytes.{Consumes-trans, Consumes-kept}
use Rattle.whole.specs.Tests.{if◌then◌otherwise◌}
use Rattle.standard_input.specs.declared.Progress.{Progress}
use Rattle.standard_input.specs.declared.Progress.TheVariants.{Going, Whole, Failed}
use Rattle.standard_input.specs.Reads.{told, interrupted, after_read, Holds}
use Rattle.std.proofs.lemmas.Grind.{common_steps}
use Rattle.standard_input.proofs.Laws.{of_test}

-- what a part has come to hold stands behind what was there
pub there : (at n k : ℕ) (xs ys : List ℕ) → at ≤ length xs → n ≤ length ys → take (at + n) (put_mid at k xs ys) ≡ take at xs ++ take n ys
there at n k xs ys within few =
    ap (λ i. take (i + n) (put_mid at k xs ys)) (sym (length-take-le at xs within))
    ∙ take-append-add (take at xs) (ys ++ post_of at k xs) n
    ∙ ap (λ l. take at xs ++ l) (take-append-le n ys (post_of at k xs) few)

pub long_as_before : (at : ℕ) (xs ys : List ℕ) → at ≤ length xs → length ys ≡ length xs - at → length (put_mid at (length xs - at) xs ys) ≡ length xs
long_as_before at xs ys within long = grind (arith, common_steps)

pub held_on : (at patience : ℕ) (answer : Result ℕ Error) (known a b : Option (List ℕ)) (xs ys : List ℕ)
    → at ≤ length xs → length ys ≡ length xs - at → ReadsAtMost answer ys → ReadConsumes a b answer ys → Consumes known a (take at xs)
    → Holds (after_read at patience (length xs) (told answer)) known b (put_mid at (length xs - at) xs ys)
unfolding after_read
held_on at patience (Ok n) known a b xs ys within long fits read before =
    let new = put_mid at (length xs - at) xs ys in
    let P = λ (p : Progress). Holds p known b new in
    let size = long_as_before at xs ys within long in
    let now : Consumes known b (take (at + n) new) = rw (there at n (length xs - at) xs ys within fits.0) (Consumes-trans known a b _ _ before read.0) in
    of_test P (eqb n 0)
    (λ e. let z = eqb-true n 0 e in
    let here : at + n ≡ at = omega (arith, z) in
    (subst (λ i. Consumes known b (take i new)) here now, λ room. read.1 z (omega (arith, long, size, room))))
    (λ _. of_test P (eqb (at + n) (length xs))
    (λ e. (now, λ room. absurd (omega (arith, eqb-true (at + n) (length xs) e, size, room))))
    (λ _. now))
held_on at patience (Err e) known a b xs ys within long _ read before =
    let new = put_mid at (length xs - at) xs ys in
    let P = λ (p : Progress). Holds p known b new in
    let now : Consumes known b (take at new) = rw (take_put at (length xs - at) xs ys within) (Consumes-kept known a b _ before read) in
    of_test P (interrupted (error_kind e)) (λ _. of_test P (eqb patience 0) (λ _. tt) (λ _. now)) (λ _. tt)
