-- The rows of a product, added to a total that stays within 49 bits, so that no sum of it leaves a word. Assumes nothing.
use mathlib.Core.Path.{◌≡◌, refl, ap}
use mathlib.Core.Bool.{Bool, true, false}
use mathlib.Core.List.{List, ◌++◌, append_assoc}
use Prim.Native.Nat.{ℕ, zero, suc, ◌-◌, ◌≤◌}
use native.Mathlib.Omega.{arith}
use lib.IntN.{ℤ, pos, negsuc, ◌+ℤ◌}
use mir.Syntax.{w64}
use mir.Val.{to_z, of_z}
use Rattle.whole.specs.Tests.{if◌then◌otherwise◌}
use Rattle.whole.specs.Bits.{Fits, odd, half, bits_of}
use Rattle.whole.proofs.Bits.{fits_iff}
use Rattle.whole.proofs.Ranges.{fits_up, sum_fits}
use Rattle.trace.specs.Traces.{adding, row_of, adding_rows, multiplying}
use Rattle.extend.specs.declared.PartialModel.{PartialModel}
use Rattle.extend.specs.Bytes.{Room, Put}
use Rattle.extend.proofs.Words.{kept_sum}
use Rattle.extend.proofs.Putting.{put_then, Left, left_room, left_step, left_none}

half_fits_48 : (t : ℤ) → Fits 49 t → Fits 48 (half t)
half_fits_48 (pos n) p = fits_iff.1 (omega (arith, fits_iff.0 p))
half_fits_48 (negsuc n) p = fits_iff.1 (omega (arith, fits_iff.0 p))

pub row_fits_48 : {x : ℤ} (y : ℤ) → Fits 48 x → Fits 48 (row_of x y)
row_fits_48 {x} y p = by (odd y)
  where
    by : (b : Bool) → Fits 48 (if b then x otherwise pos 0)
    by true = p
    by false = fits_iff.1 (omega arith)

-- the rows of n bits of y are left, to the total so far
pub record Rows (before : PartialModel) (all : List Bool) (m : PartialModel) (n : ℕ) (x y total : ℤ) : Type 0 where
  pub fits_x : Fits 48 x
  pub fits_total : Fits 49 total
  pub left : Left before all m (adding_rows n x y total)

-- one row r is put, and then its sum with h, half the total
module _ {before m : PartialModel} {all : List Bool} {n : ℕ} {x y total : ℤ} (p : Rows before all m n x y total) {k : ℕ} (e : n ≡ suc k) {r h : ℤ} (f : r ≡ row_of x y) (g : h ≡ half total) where
  parts : adding_rows n x y total ≡ bits_of n r ++ (adding false n h r ++ adding_rows k x (half y) (h +ℤ r))
  parts = rw (e, f, g) (append_assoc (bits_of (suc k) (row_of x y)) (adding false (suc k) (half total) (row_of x y)) (adding_rows k x (half y) (half total +ℤ row_of x y)))

  pub row_room : Room (bits_of n r) m
  row_room = left_room p.left (bits_of n r) (adding false n h r ++ adding_rows k x (half y) (h +ℤ r)) parts

  pub fits_row : Fits 48 r
  fits_row = rw f (row_fits_48 y p.fits_x)

  pub fits_half : Fits 48 h
  fits_half = rw g (half_fits_48 total p.fits_total)

  module _ {m₁ : PartialModel} (q : Put (bits_of n r) m m₁) where
    after : Left before all m₁ (adding false n h r ++ adding_rows k x (half y) (h +ℤ r))
    after = left_step p.left (bits_of n r) (adding false n h r ++ adding_rows k x (half y) (h +ℤ r)) parts q

    pub sum_room : Room (adding false n h r) m₁
    sum_room = left_room after (adding false n h r) (adding_rows k x (half y) (h +ℤ r)) refl

    pub rows_step : {m₂ : PartialModel} {v : ℤ} → Put (adding false n h r) m₁ m₂ → v ≡ half y → Rows before all m₂ k x v (to_z w64 (of_z w64 (h +ℤ r)))
    rows_step w i = rw (i, kept_sum fits_half fits_row) (record {
      fits_x = p.fits_x;
      fits_total = fits_up (omega arith) (sum_fits (omega arith) (omega arith) fits_half fits_row);
      left = left_step after (adding false n h r) (adding_rows k x (half y) (h +ℤ r)) refl w;
    })

module _ {before m : PartialModel} {all : List Bool} {n : ℕ} {x y total : ℤ} where
  pub rows_end : Rows before all m n x y total → n ≡ 0 → Put all before m
  rows_end p h = left_none p.left (ap (λ k. adding_rows k x y total) h)

multiplying_turn : (w : ℕ) (x y : ℤ) → 1 ≤ w → multiplying w x y ≡ bits_of w (row_of x y) ++ adding_rows (w - 1) x (half y) (row_of x y)
multiplying_turn zero x y h = absurd (omega arith)
multiplying_turn (suc w) x y h = let e : suc w - 1 ≡ w = omega arith in rw e

-- a product is its first row, and the rows of what is above y's lowest bit
module _ (w : ℕ) (x y : ℤ) where
  pub multiplied : {m m₁ m₂ : PartialModel} {r h : ℤ} → 1 ≤ w → Room (multiplying w x y) m → r ≡ row_of x y → h ≡ half y → Put (bits_of w r) m m₁
      → Put (adding_rows (w - 1) x h r) m₁ m₂ → Put (multiplying w x y) m m₂
  multiplied k room e f p q =
      let turn = multiplying_turn w x y k in
      rw turn (put_then (bits_of w (row_of x y)) (adding_rows (w - 1) x (half y) (row_of x y)) (rw turn at room) (rw e at p) (rw (f, e) at q))
