-- A line for every row, one after the other. Assumes nothing.
use mathlib.Core.Path.{◌≡◌}
use mathlib.Core.List.{List, [], ◌∷◌}
use Prim.Native.Nat.{ℕ, ◌+◌, ◌*◌, ◌≤◌}
use native.Mathlib.Omega.{arith}
use lib.ListN.{length, length-append}
use Rattle.frame.specs.Frame.{front, over}
use Rattle.frame.proofs.Frames.{over_zero, over_none, over_over}
use Rattle.sheet.specs.Texts.{row_lines}
use Rattle.print.specs.Put.{Put}
use Rattle.print.proofs.Puts.{put_long}

module _ {A : Type 0} (line : ℕ → A → List ℕ) where
  -- what is left of the lines, behind those that are printed; each has room for 64 bytes
  pub record Left (all : List A) (out₀ out : List ℕ) (i at : ℕ) (rest : List A) : Type 0 where
    pub room : at + 64 * length rest ≤ length out
    pub size : at + length (row_lines line i rest) ≡ length (row_lines line 0 all)
    pub left : over at (row_lines line i rest) out ≡ front (row_lines line 0 all) out₀

  pub left_all : (all : List A) (out : List ℕ) → 64 * length all ≤ length out → Left all out out 0 0 all
  left_all all out h = record { room = omega arith; size = omega arith; left = over_zero (row_lines line 0 all) out }

  module _ {all : List A} {out₀ out : List ℕ} {i at : ℕ} where
    pub left_step : (x : A) (rest : List A) {out' : List ℕ} {at' : ℕ} → Left all out₀ out i at (x ∷ rest) → length (line i x) ≤ 64 → Put (line i x) at out out' at'
        → Left all out₀ out' (i + 1) at' rest
    unfolding row_lines
    left_step x rest {at' = at'} l h p =
        let long = put_long (omega (arith, l.room)) p in
        record {
          room = omega (arith, l.room, p.place, long);
          size = omega (arith, p.place, simp length-append at l.size);
          left = rw (p.bytes, over_over at at' (line i x) (row_lines line (i + 1) rest) out (omega (arith, l.room)) p.place) l.left;
        }

    pub left_none : (rest : List A) → length rest ≡ 0 → Left all out₀ out i at rest → (at ≡ length (row_lines line 0 all)) × (out ≡ front (row_lines line 0 all) out₀)
    unfolding row_lines
    left_none [] e l = (omega (arith, l.size), rw over_none at l.left)
    left_none (x ∷ rest) e l = absurd (omega arith)
