-- What the gates of a multiplier hold, of a product and of an expansion, and how wide their results are. Assumes nothing.
use mathlib.Core.Path.{◌≡◌, ◌∙◌, ap, ap₂, subst, subst₂}
use mathlib.Core.Bool.{Bool, true, false, not, ◌&&◌, and-true, and-false}
use mathlib.Core.List.{List, [], ◌∷◌, append_assoc}
use Prim.Native.Nat.{ℕ, zero, suc, ◌+◌, ◌≤◌, ◌<◌}
use native.Mathlib.Omega.{arith}
use lib.Dec.{eqb}
use lib.ListN.{length}
use lib.IntN.{ℤ, pos, ◌+ℤ◌, ◌*ℤ◌, +ℤ_idr}
use Rattle.whole.specs.Tests.{if◌then◌otherwise◌}
use Rattle.whole.specs.Bits.{odd, half, bits_of, fewest}
use Rattle.circuit.specs.Literals.{Lit, truth, falsity, Assignment, lit_true}
use Rattle.circuit.specs.Circuits.{ret}
use Rattle.circuit.specs.Numbers.{constant, ands, add_rows, multiplier, product, expansion}
use Rattle.circuit.specs.Counting.{expanded_width}
use Rattle.circuit.proofs.Bounds.{constant_lits}
use Rattle.circuit.proofs.Reading.{Reads, constant_reads, expansion_reads}
use Rattle.trace.specs.Traces.{row_of, adding_rows, multiplying, expanding}
use Rattle.trace.proofs.Tracing.{Tracing, trace_ret, trace_new, trace_bind, trace_then, trace_sem}
use Rattle.trace.proofs.Places.{Places, places-length, places_read}
use Rattle.trace.proofs.Adding.{adder_traced}

module _ (s : Assignment) (l : List Bool) where
  ands_traced : (n w : ℕ) (xs : List Lit) (i : Lit) (x : ℤ) (b : Bool) → n ≤ w → Places s w xs x → lit_true s i ≡ b
      → Tracing s l (ands n xs i) l (bits_of n (if b then x otherwise pos 0)) (λ r. Places s n r (if b then x otherwise pos 0))
  ands_traced zero w xs i x b h a e = trace_ret tt
  ands_traced (suc n) zero xs i x b h a e = absurd (omega arith)
  ands_traced (suc n) (suc w) [] i x b h a e = absurd a
  ands_traced (suc n) (suc w) (j ∷ xs) i x true h a e =
      trace_new (ap₂ ◌&&◌ a.0 e ∙ and-true (odd x)) (λ u eu. trace_then (ands_traced n w xs i (half x) true (omega arith) a.1 e) (λ r p. trace_ret (eu, p)))
  ands_traced (suc n) (suc w) (j ∷ xs) i x false h a e =
      trace_new (ap₂ ◌&&◌ a.0 e ∙ and-false (odd x)) (λ u eu. trace_then (ands_traced n w xs i (half x) false (omega arith) a.1 e) (λ r p. trace_ret (eu, p)))

  module _ (ef : lit_true s falsity ≡ false) where
    add_rows_traced : (w v : ℕ) (ys xs total : List Lit) (x y t : ℤ) → w ≤ v → Places s w ys y → Places s v xs x → Places s (suc w) total t
        → Tracing s l (add_rows ys xs total) l (adding_rows w x y t) (λ r. length r ≡ suc w)
    add_rows_traced zero v [] xs total x y t h b a p = trace_ret (places-length s 1 total t p)
    add_rows_traced zero v (i ∷ ys) xs total x y t h b a p = absurd b
    add_rows_traced (suc w) v [] xs total x y t h b a p = absurd b
    add_rows_traced (suc w) v (i ∷ ys) xs [] x y t h b a p = absurd p
    add_rows_traced (suc w) v (i ∷ ys) xs (j ∷ total) x y t h b a p =
        let row : ℤ = row_of x y in
        rw (places-length s (suc w) total (half t) p.1, append_assoc)
        (trace_bind (ands_traced (suc w) v xs i x (odd y) h a b.0) (λ rs q.
        trace_bind (adder_traced s l (suc w) falsity total rs false (half t) row ef p.1 q) (λ sum u.
        trace_then (add_rows_traced w v ys xs sum x (half y) (half t +ℤ row) (omega arith) b.1 a (subst (Places s (suc w) sum) (+ℤ_idr (half t +ℤ row)) u))
        (λ r e. trace_ret (ap suc e)))))

    multiplier_traced : (w : ℕ) (xs ys : List Lit) (x y : ℤ) → 0 < w → Places s w xs x → Places s w ys y
        → Tracing s l (multiplier xs ys) l (multiplying w x y) (λ r. length r ≡ w)
    multiplier_traced zero xs ys x y h a b = absurd (omega arith)
    multiplier_traced (suc w) xs [] x y h a b = absurd b
    multiplier_traced (suc w) xs (i ∷ ys) x y h a b =
        rw (places-length s (suc w) xs x a)
        (trace_bind (ands_traced (suc w) (suc w) xs i x (odd y) (omega arith) a b.0) (λ total p.
        add_rows_traced w (suc w) ys xs total x (half y) (row_of x y) (omega arith) b.1 a p))

    pub product_traced : {v w : ℕ} {xs ys : List Lit} {x y : ℤ} → Reads s xs x → Reads s ys y → length xs ≡ v → length ys ≡ w
        → Tracing s l (product xs ys) l (multiplying (v + w) x y) (λ r. length r ≡ v + w)
    product_traced {xs = xs} {ys = ys} {x = x} {y = y} a b e f =
        subst₂ (λ (i j : ℕ). Tracing s l (product xs ys) l (multiplying (i + j) x y) (λ r. length r ≡ i + j)) e f
        (multiplier_traced (length xs + length ys) _ _ x y (omega (arith, a.some)) (places_read s (length xs + length ys) a (omega arith)) (places_read s (length xs + length ys) b (omega arith)))

  pub expansion_traced : lit_true s truth ≡ true → {w : ℕ} {xs : List Lit} {x : ℤ} (f : ℕ) → Reads s xs x → length xs ≡ w
      → Tracing s l (expansion f xs) l (expanding w f x) (λ r. (length r ≡ expanded_width w f) × Reads s r (x *ℤ pos f))
  unfolding expanded_width
  expansion_traced et {w = w} {xs = xs} {x = x} f a e = trace_sem (by (eqb f 1)) (expansion_reads s et l f a)
    where
      by : (one : Bool) → Tracing s l (if one then ret xs otherwise product xs (constant (pos f))) l (if one then [] otherwise multiplying (w + fewest (pos f)) x (pos f))
          (λ r. length r ≡ (if one then w otherwise w + fewest (pos f)))
      by true = trace_ret e
      by false = product_traced (ap not et) a (constant_reads s et (pos f)) e (constant_lits {n = 1} (pos f) (omega arith)).size
