-- What a read comes to by what it answered; reads one after the other; a failed one is never the end. Assumes nothing.
use mathlib.Core.Path.{◌≡◌, refl, sym, ap, subst, ◌∙◌}
use mathlib.Core.Bool.{Bool, true, false, false≢true}
use mathlib.Core.List.{List, [], ◌∷◌, ◌++◌}
use Prim.Native.Nat.{ℕ, zero, suc, ◌+◌, ◌-◌, ◌≤◌, ◌<◌}
use native.Mathlib.Omega.{arith}
use borrow.Author.Tests.{eqb-false, ne_eqb}
use lib.Dec.{eqb}
use lib.ListN.{length, take, drop, length-drop}
use lib.Seq.{length-take-le}
use Rattle.whole.specs.Tests.{if◌then◌otherwise◌}
use Rattle.std_io.specs.declared.io.error.Error.{Error}
use Rattle.std_io.specs.declared.io.kind.ErrorKind.{ErrorKind}
use Rattle.std_io.specs.declared.io.kind.ErrorKind.TheVariants.{Interrupted}
use Rattle.std.proofs.Common.{Result, Ok, Err, IfOk}
use Rattle.std.specs.Io.{ReadsAtMost}
use Rattle.standard_input.specs.declared.Progress.{Progress}
use Rattle.standard_input.specs.declared.Progress.TheVariants.{Going, Whole, Failed}
use Rattle.standard_input.specs.Reads.{told, interrupted, after_read, Read, after, begun, Reached, OneMore, Over, bytes, IsWhole, FailedIsNoInput, InterruptedIsTriedAgain}

-- a kind is `Interrupted` or not
pub not_interrupted : (k : ErrorKind) → (k ≡ Interrupted → ⊥) → interrupted k ≡ false
not_interrupted Interrupted h = absurd (h refl)
not_interrupted _ h = refl

-- what holds of both answers of a test holds of the one that is taken
pub of_test : {A : Type 0} (P : A → Type 0) (b : Bool) {x y : A} → (b ≡ true → P x) → (b ≡ false → P y) → P (if b then x otherwise y)
of_test P true f g = f refl
of_test P false f g = g refl

-- a read moved no more than it was handed
pub moved_by : {E : Type 0} (n : ℕ) (answer : Result ℕ E) (l : List ℕ) → length l ≡ n → ReadsAtMost answer l → IfOk answer (λ k. k ≤ n)
moved_by n (Ok k) l long fits = omega (arith, long, fits.0)
moved_by n (Err e) l long fits = tt

pub moved_told : (n : ℕ) (answer : Result ℕ Error) → IfOk answer (λ k. k ≤ n) → IfOk (told answer) (λ k. k ≤ n)
moved_told n (Ok k) m = m
moved_told n (Err e) m = tt

-- what is left to read and to put up with falls, and no more is there than was lent
abbrev pub Nearer : (at patience size : ℕ) → Progress → Type 0
Nearer at patience size (Going there left) = (there ≤ size) × (size - there + left < size - at + patience)
Nearer at patience size (Whole n) = n ≤ size
Nearer at patience size Failed = Unit {0}

pub read_nearer : (at patience size : ℕ) (r : Read) → at ≤ size → IfOk r (λ n. n ≤ size - at) → Nearer at patience size (after_read at patience size r)
unfolding after_read
read_nearer at patience size (Ok n) within m =
    let P = Nearer at patience size in
    of_test P (eqb n 0)
    (λ _. within)
    (λ e. let h = eqb-false n 0 e in
    of_test P (eqb (at + n) size) (λ _. omega (arith, m)) (λ _. (omega (arith, m), omega (arith, m, h))))
read_nearer at patience size (Err kind) within m =
    let P = Nearer at patience size in
    of_test P (interrupted kind)
    (λ _. of_test P (eqb patience 0) (λ _. tt) (λ e. let h = eqb-false patience 0 e in (within, omega (arith, h))))
    (λ _. tt)

pub failed : (at patience size : ℕ) (kind : ErrorKind) → interrupted kind ≡ false → after_read at patience size (Err kind) ≡ Failed
unfolding after_read
failed at patience size kind e = rw e

-- reads one after the other
pub failed_stays : (rs : List Read) (size : ℕ) → after rs size Failed ≡ Failed
unfolding after
failed_stays [] size = refl
failed_stays (r ∷ rs) size = refl

pub after_then : (rs : List Read) (size : ℕ) (p : Progress) (later : List Read) → after (rs ++ later) size p ≡ after later size (after rs size p)
unfolding after
after_then [] size p later = refl
after_then (r ∷ rs) size (Going at patience) later = after_then rs size (after_read at patience size r) later
after_then (r ∷ rs) size (Whole n) later = sym (stays later)
  where
    stays : (later : List Read) → after later size (Whole n) ≡ Whole n
    stays [] = refl
    stays (r ∷ rs) = refl
after_then (r ∷ rs) size Failed later = sym (failed_stays later size)

pub failed_is_no_input : FailedIsNoInput
unfolding after
failed_is_no_input size before kind later at patience e n =
    after_then before size begun (Err kind ∷ later)
    ∙ ap (after (Err kind ∷ later) size) e
    ∙ ap (after later size) (failed at patience size kind n)
    ∙ failed_stays later size

pub interrupted_is_tried_again : InterruptedIsTriedAgain
unfolding after_read
interrupted_is_tried_again size at patience = rw (ne_eqb (patience + 1) 0 (λ e. absurd (omega (arith, e)))) (ap (Going at) (omega arith))

-- one read more
pub reached_more : {at patience size : ℕ} {progress : Progress} → Reached size (Going at patience) → OneMore at patience size progress → Reached size progress
unfolding after
reached_more {size = size} h m =
    record { reads = h.reads ++ m.read ∷ []; come = after_then h.reads size begun (m.read ∷ []) ∙ ap (after (m.read ∷ []) size) h.come ∙ m.come }

pub nearer : {at patience size : ℕ} {progress : Progress} → at ≤ size → OneMore at patience size progress → Nearer at patience size progress
nearer {at = at} {patience = patience} {size = size} within m =
    subst (Nearer at patience size) m.come (read_nearer at patience size m.read within m.moved)

-- what a program hands on lies within what it lent, and is as long as reading said
pub whole_within : {size n : ℕ} {progress : Progress} → Over size progress → progress ≡ Whole n → n ≤ size
whole_within {size = size} over e = subst (Over size) e over

pub whole_long : {n : ℕ} {progress : Progress} (l : List ℕ) → Over (length l) progress → progress ≡ Whole n → n ≡ length (take n l)
whole_long {n = n} l over e = sym (length-take-le n l (whole_within over e))

pub whole_input : {n : ℕ} {progress : Progress} (l : List ℕ) → bytes progress ≡ length l → progress ≡ Whole n → IsWhole progress l
whole_input l long e = e ∙ ap Whole (sym (ap bytes e) ∙ long)
