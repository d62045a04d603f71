-- A page, piece by piece; and the pages one after the other are the text. Assumes nothing.
use mathlib.Core.Path.{◌≡◌, refl, sym, ap, ◌∙◌}
use mathlib.Core.List.{List, [], ◌∷◌, ◌++◌, append_assoc}
use Prim.Native.Nat.{ℕ, zero, suc, ◌+◌, ◌-◌, ◌≤◌, ◌<◌, max}
use native.Mathlib.Nat.{add-zero, sub-zero}
use native.Mathlib.Numerals.{add-one}
use native.Mathlib.Omega.{arith}
use native.Mathlib.Decide.{dec_lt}
use borrow.Author.Tests.{lt-ltb, le-ltb}
use lib.ListN.{length, get_or, take, drop, length-append, take-append-drop, drop_of_length-le}
use lib.Seq.{drop-cons, drop-drop}
use Rattle.frame.specs.Frame.{front, over}
use Rattle.frame.proofs.Frames.{over_zero, over_none, over_over}
use Rattle.print.specs.declared.Page.{Page}
use Rattle.print.specs.Put.{Put}
use Rattle.print.specs.Pages.{joined, fitting, page_text, page_from, pages}
use Rattle.print.proofs.Puts.{put_long}

pub joined-append : (us vs : List (List ℕ)) → joined (us ++ vs) ≡ joined us ++ joined vs
unfolding joined
joined-append [] vs = refl
joined-append (u ∷ us) vs = ap (λ (t : List ℕ). u ++ t) (joined-append us vs) ∙ sym (append_assoc u (joined us) (joined vs))

-- piece n is next
module _ (pieces : List (List ℕ)) (n room : ℕ) where
  abbrev piece : List ℕ
  piece = get_or pieces n []

  fitting_more : n < length pieces → 64 ≤ room → fitting (drop n pieces) room ≡ suc (fitting (drop (n + 1) pieces) (room - length piece))
  unfolding fitting
  fitting_more h k = rw (drop-cons pieces n [] h, add-one, le-ltb room 64 k)

  page_more : n < length pieces → 64 ≤ room → page_text (drop n pieces) room ≡ piece ++ page_text (drop (n + 1) pieces) (room - length piece)
  unfolding page_text joined
  page_more h k = rw (fitting_more h k, drop-cons pieces n [] h, add-one)

  fitting_full : n < length pieces → room < 64 → fitting (drop n pieces) room ≡ 0
  unfolding fitting
  fitting_full h k = rw (drop-cons pieces n [] h, lt-ltb room 64 k)

  fitting_end : length pieces ≤ n → fitting (drop n pieces) room ≡ 0
  unfolding fitting
  fitting_end h = rw (drop_of_length-le pieces {i = n} h)

  page_none : fitting (drop n pieces) room ≡ 0 → page_text (drop n pieces) room ≡ []
  unfolding page_text joined
  page_none e = rw e

-- the invariant of a loop that prints a page: what is left of it, counted, measured and put behind what is printed, is the page
pub record Left (pieces : List (List ℕ)) (from : ℕ) (out₀ out : List ℕ) (next size : ℕ) : Type 0 where
  pub within : size ≤ length out
  pub long : length out ≡ length out₀
  pub count : next + fitting (drop next pieces) (length out₀ - size) ≡ from + fitting (drop from pieces) (length out₀)
  pub bytes : size + length (page_text (drop next pieces) (length out₀ - size)) ≡ length (page_text (drop from pieces) (length out₀))
  pub left : over size (page_text (drop next pieces) (length out₀ - size)) out ≡ front (page_text (drop from pieces) (length out₀)) out₀

pub left_all : (pieces : List (List ℕ)) (from : ℕ) (out : List ℕ) → Left pieces from out out from 0
left_all pieces from out = record { within = omega arith; long = refl; count = rw sub-zero; bytes = rw sub-zero (omega arith); left = rw sub-zero (over_zero _ _) }

-- what a page's printer promises
pub record Printed (pieces : List (List ℕ)) (from : ℕ) (out₀ out : List ℕ) (page : Page) : Type 0 where
  pub answer : page ≡ page_from from pieces (length out₀)
  pub text : out ≡ front (page_text (drop from pieces) (length out₀)) out₀

module _ {pieces : List (List ℕ)} {from : ℕ} {out₀ out : List ℕ} {next size : ℕ} (i : Left pieces from out₀ out next size) where
  -- a piece is put
  pub left_step : {out' : List ℕ} {size' : ℕ} → next < length pieces → 64 ≤ length out - size → length (get_or pieces next []) ≤ 64
      → Put (get_or pieces next []) size out out' size' → Left pieces from out₀ out' (next + 1) size'
  left_step {out' = out'} {size'} h k l p =
      let text = get_or pieces next [] in
      let room = length out₀ - size in
      let big : 64 ≤ room = omega (arith, i.long) in
      let d : room - length text ≡ length out₀ - size' = omega (arith, p.place) in
      let f = rw d at (fitting_more pieces next room h big) in
      let g = rw d at (page_more pieces next room h big) in
      let n = rw f at i.count in
      let m = rw (g, length-append) at i.bytes in
      let same : length out' ≡ length out = put_long (omega arith) p in
      record {
        within = omega (arith, p.place);
        long = same ∙ i.long;
        count = omega (arith, n);
        bytes = omega (arith, m, p.place);
        left = rw (p.bytes, over_over size size' text (page_text (drop (next + 1) pieces) (length out₀ - size')) out i.within p.place, ← g) i.left;
      }

  -- no piece more
  done : fitting (drop next pieces) (length out₀ - size) ≡ 0 → Printed pieces from out₀ out (record { next = next; size = size })
  done f =
      let p = page_none pieces next (length out₀ - size) f in
      let n : next ≡ from + fitting (drop from pieces) (length out₀) = sym (add-zero next) ∙ (rw f at i.count) in
      let m : size ≡ length (page_text (drop from pieces) (length out₀)) = sym (add-zero size) ∙ (rw p at i.bytes) in
      record { answer = λ j. record { next = n j; size = m j }; text = rw (p, over_none) at i.left }

  pub left_full : next < length pieces → length out - size < 64 → Printed pieces from out₀ out (record { next = next; size = size })
  left_full h k = done (fitting_full pieces next (length out₀ - size) h (omega (arith, i.long)))

  -- the loop has come to the last piece, or never began
  pub left_end : length pieces ≤ next → (from ≤ length pieces → next ≤ length pieces) → Printed pieces from out₀ out (record { next = max from (length pieces); size = size })
  left_end h k =
      let e = done (fitting_end pieces next (length out₀ - size) h) in
      rw (← reached (dec_lt from (length pieces))) e
    where
      reached : Dec (from < length pieces) → next ≡ max from (length pieces)
      reached (yes g) = omega (arith, k)
      reached (no g) = omega (arith, i.count, fitting_end pieces next (length out₀ - size) h, fitting_end pieces from (length out₀) (omega arith))

-- ---- the pages one after the other

-- the page, then the text from the next piece on, is the text
page_then : (from : ℕ) (pieces : List (List ℕ)) (room : ℕ) → joined (drop from pieces) ≡ page_text (drop from pieces) room ++ joined (drop (page_from from pieces room).next pieces)
unfolding page_text
page_then from pieces room =
    let ps = drop from pieces in
    let k = fitting ps room in
    ap joined (sym (take-append-drop k ps)) ∙ joined-append (take k ps) (drop k ps) ∙ ap (λ (qs : List (List ℕ)). joined (take k ps) ++ joined qs) (drop-drop k from pieces)

-- a page takes a piece, where there is one
pub page_goes_on : (from : ℕ) (pieces : List (List ℕ)) (room : ℕ) → from < length pieces → 64 ≤ room → from < (page_from from pieces room).next
page_goes_on from pieces room h k = rw (fitting_more pieces from room h k) (omega arith)

-- so many pages as there are pieces are enough
pub all_pages : (k from : ℕ) (pieces : List (List ℕ)) (room : ℕ) → 64 ≤ room → length pieces ≤ from + k → pages k from pieces room ≡ joined (drop from pieces)
unfolding pages joined
all_pages zero from pieces room h l = rw (drop_of_length-le pieces {i = from} (omega arith))
all_pages (suc k) from pieces room h l =
    ap (λ (t : List ℕ). page_text (drop from pieces) room ++ t) (all_pages k (page_from from pieces room).next pieces room h (reached (dec_lt from (length pieces))))
    ∙ sym (page_then from pieces room)
  where
    reached : Dec (from < length pieces) → length pieces ≤ (page_from from pieces room).next + k
    reached (yes g) = omega (arith, page_goes_on from pieces room g h)
    reached (no g) = omega arith
