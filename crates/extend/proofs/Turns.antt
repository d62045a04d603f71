-- A turn of each loop: the bits of one place are put, and those of the places left remain; and the end, where none is left. Assumes nothing.
use mathlib.Core.Path.{◌≡◌, refl, ap}
use mathlib.Core.Bool.{Bool, not, ◌&&◌}
use mathlib.Core.List.{List, [], ◌∷◌, ◌++◌}
use Prim.Native.Nat.{ℕ, zero, suc}
use native.Mathlib.Omega.{arith}
use borrow.Author.Tests.{ne_eqb}
use lib.Dec.{eqb}
use lib.IntN.{ℤ}
use Rattle.whole.specs.Tests.{if◌then◌otherwise◌}
use Rattle.whole.specs.Bits.{odd, half, bits_of}
use Rattle.circuit.specs.Gates.{xor_of, mux_of, maj_of}
use Rattle.trace.specs.Traces.{adding, exceeding, equalling}
use Rattle.extend.specs.declared.PartialModel.{PartialModel}
use Rattle.extend.specs.Bytes.{Put}
use Rattle.extend.specs.Places.{sum_place, order_place, match_place}
use Rattle.extend.proofs.Putting.{Left, left_step, left_none}

-- n places are left, and k behind the one that is put; a and b are the bits of x and y there, and u and v what is above them
module _ {before m : PartialModel} {all : List Bool} (n : ℕ) where
  module _ (x : ℤ) (p : Left before all m (bits_of n x)) where
    pub bits_step : {m' : PartialModel} {k : ℕ} {a : Bool} {u : ℤ} → n ≡ suc k → Put (a ∷ []) m m' → a ≡ odd x → u ≡ half x → Left before all m' (bits_of k u)
    bits_step {k = k} h q e f = rw f (left_step (rw h at p) (odd x ∷ []) (bits_of k (half x)) refl (rw e at q))

    pub bits_end : n ≡ 0 → Put all before m
    bits_end h = left_none p (ap (λ k. bits_of k x) h)

  module _ (c : Bool) (x y : ℤ) where
    module _ (p : Left before all m (adding c n x y)) where
      pub adding_step : {m' : PartialModel} {k : ℕ} {a b d : Bool} {u v : ℤ} → n ≡ suc k → Put (sum_place a b c) m m' → a ≡ odd x → b ≡ odd y
          → d ≡ maj_of a b c → u ≡ half x → v ≡ half y → Left before all m' (adding d k u v)
      adding_step {k = k} h q e f g i j =
          rw (g, i, j, e, f)
          (left_step (rw h at p) (sum_place (odd x) (odd y) c) (adding (maj_of (odd x) (odd y) c) k (half x) (half y)) refl (rw (e, f) at q))

      pub adding_end : n ≡ 0 → Put all before m
      adding_end h = left_none p (ap (λ k. adding c k x y) h)

    module _ (p : Left before all m (equalling c n x y)) where
      pub equalling_step : {m' : PartialModel} {k : ℕ} {a b d : Bool} {u v : ℤ} → n ≡ suc k → Put (match_place a b c) m m' → a ≡ odd x → b ≡ odd y
          → d ≡ (c && not (xor_of a b)) → u ≡ half x → v ≡ half y → Left before all m' (equalling d k u v)
      equalling_step {k = k} h q e f g i j =
          rw (g, i, j, e, f)
          (left_step (rw h at p) (match_place (odd x) (odd y) c) (equalling (c && not (xor_of (odd x) (odd y))) k (half x) (half y)) refl (rw (e, f) at q))

      pub equalling_end : n ≡ 0 → Put all before m
      equalling_end h = left_none p (ap (λ k. equalling c k x y) h)

    -- p is the bit that decides where a and b differ: a, and at the sign, where none is left behind, b
    module _ (p : Left before all m (exceeding c n x y)) where
      pub exceeding_step : {m' : PartialModel} {k : ℕ} {a b p d : Bool} {u v : ℤ} → n ≡ suc k → Put (order_place a b p c) m m' → a ≡ odd x → b ≡ odd y
          → p ≡ (if eqb k 0 then b otherwise a) → d ≡ mux_of (xor_of a b) p c → u ≡ half x → v ≡ half y → Left before all m' (exceeding d k u v)
      exceeding_step {k = k} h q e f s g i j =
          rw (g, s, i, j, e, f)
          (left_step (rw h at p) (order_place (odd x) (odd y) (deciding k) c) (exceeding (mux_of (xor_of (odd x) (odd y)) (deciding k) c) k (half x) (half y)) (turn k) (rw (s, e, f) at q))
        where
          deciding : ℕ → Bool
          deciding k = if eqb k 0 then odd y otherwise odd x

          turn : (k : ℕ) → exceeding c (suc k) x y ≡ order_place (odd x) (odd y) (deciding k) c ++ exceeding (mux_of (xor_of (odd x) (odd y)) (deciding k) c) k (half x) (half y)
          turn zero = refl
          turn (suc k) = rw (ne_eqb (suc k) 0 (λ i. absurd (omega arith))) refl

      pub exceeding_end : n ≡ 0 → Put all before m
      exceeding_end h = left_none p (ap (λ k. exceeding c k x y) h)
