-- A page with room for a whole text and 64 bytes more is the text; and how long DIMACS text can be. Assumes nothing.
use mathlib.Core.Path.{◌≡◌, refl, ap}
use mathlib.Core.List.{List, [], ◌∷◌, map}
use Prim.Native.Nat.{ℕ, suc, ◌+◌, ◌*◌, ◌-◌, ◌≤◌}
use native.Mathlib.Nat.{le_refl}
use native.Mathlib.Omega.{arith}
use borrow.Author.Tests.{le-ltb}
use lib.IntN.{ℤ}
use lib.ListN.{length, length-append}
use lib.Seq.{take_all}
use Rattle.sheet.specs.Texts.{ascii, slot_text}
use Rattle.print.specs.Pages.{joined, fitting, page_text}
use Rattle.print.specs.Pieces.{pair_line, dimacs_pieces}
use Rattle.print.proofs.Pieces.{length_pair, length-slot}

fitting_whole : (pieces : List (List ℕ)) (room : ℕ) → length (joined pieces) + 64 ≤ room → fitting pieces room ≡ length pieces
unfolding fitting joined
fitting_whole [] room h = refl
fitting_whole (piece ∷ pieces) room h =
    let l = length-append piece (joined pieces) in
    rw (le-ltb room 64 (omega arith)) (ap suc (fitting_whole pieces (room - length piece) (omega (arith, l))))

pub page_whole : (pieces : List (List ℕ)) (room : ℕ) → length (joined pieces) + 64 ≤ room → page_text pieces room ≡ joined pieces
unfolding page_text
page_whole pieces room h = rw (fitting_whole pieces room h) (ap joined (take_all (length pieces) pieces (le_refl (length pieces))))

slots_long : (slots : List ℤ) → length (joined (map slot_text slots)) ≤ 22 * length slots
unfolding joined
slots_long [] = omega arith
slots_long (z ∷ slots) = rw (length-append (slot_text z) (joined (map slot_text slots))) (omega (arith, length-slot z, slots_long slots))

pub dimacs_long : (variables clauses : ℕ) (slots : List ℤ) → length (joined (dimacs_pieces variables clauses slots)) ≤ 22 * length slots + 48
unfolding joined dimacs_pieces
dimacs_long variables clauses slots =
    let word = ascii "p cnf " in
    rw (length-append (pair_line word variables clauses) (joined (map slot_text slots))) (omega (arith, length_pair word variables clauses, slots_long slots))
