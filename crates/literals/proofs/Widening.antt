-- The sign repeated. Assumes nothing.
use Rattle.std.proofs.Common.{◌≡◌, refl, ℕ, ◌+◌, ◌-◌, ◌≤◌, ◌<◌, List, [], ◌∷◌, ◌++◌, append_assoc, max, length, get_or, arith}
use Rattle.std.proofs.lemmas.List.{replicate_more}
use Rattle.whole.specs.Bits.{last_of, extended}

module _ {A : Type 0} where
  last_is : (x : A) (xs : List A) (d : A) → get_or (x ∷ xs) (length xs) d ≡ last_of x xs
  last_is x [] d = refl
  last_is x (y ∷ ys) d = last_is y ys d

  -- one place more
  pub extended_more : (w : ℕ) (xs : List A) (s : A) → length xs ≤ w → 0 < length xs → s ≡ get_or xs (length xs - 1) s → extended w xs ++ s ∷ [] ≡ extended (w + 1) xs
  extended_more w [] s h k e = absurd (omega arith)
  extended_more w (x ∷ xs) s h k e =
      let n : length (x ∷ xs) - 1 ≡ length xs = omega arith in
      let m : w + 1 - length (x ∷ xs) ≡ w - length (x ∷ xs) + 1 = omega arith in
      let l : s ≡ last_of x xs = rw (n, last_is x xs s) at e in
      rw (m, l, ← replicate_more (w - length (x ∷ xs)) (last_of x xs)) (append_assoc (x ∷ xs) _ _)

  -- none is missing, or as many as before
  pub extended_end : (v w : ℕ) (xs : List A) → w ≤ v → v ≤ max (length xs) w → extended v xs ≡ extended w xs
  extended_end v w [] h k = refl
  extended_end v w (x ∷ xs) h k =
      let e : v - length (x ∷ xs) ≡ w - length (x ∷ xs) = omega arith in
      rw e
