-- A row's trace looks at the records of earlier rows only. Assumes nothing.
use mathlib.Core.Path.{◌≡◌, refl, sym, ap₂}
use mathlib.Core.Bool.{false, ◌||◌}
use mathlib.Core.List.{List, [], ◌∷◌, ◌++◌}
use Prim.Native.Nat.{ℕ}
use borrow.Author.Tests.{leb-false}
use lib.Dec.{leb}
use lib.ListN.{length, get_or-append}
use lib.IntN.{ℤ}
use Rattle.circuit.specs.declared.Counts.{Counts}
use Rattle.sheet.specs.declared.Kind.{Kind}
use Rattle.sheet.specs.declared.Kind.TheVariants.{BooleanConstant, BooleanUnknown, NaturalUnknown, IntegerUnknown, NumberConstant, Not, And, Or, Implies, Iff, Sum, Difference, Product, Choice, Greater, Equal}
use Rattle.sheet.specs.declared.Fields.{Fields}
use Rattle.sheet.specs.declared.Record.{Record}
use Rattle.sheet.specs.Rows.{uses}
use Rattle.sheet.specs.Values.{Value}
use Rattle.sheet.specs.Acceptance.{sorts_in, some_not_earlier, missing, record_at}
use Rattle.sheet.proofs.Accepted.{Passes}
use Rattle.sheet.proofs.Tested.{neither}
use Rattle.trace.specs.Traces.{trace_by, trace_of}

-- the records of the rows before stand at the front of all
module _ (rs rest : List Record) where
  record_front : (x : ℕ) → leb (length rs) x ≡ false → record_at (rs ++ rest) x ≡ record_at rs x
  record_front x e = get_or-append rs rest missing x (leb-false (length rs) x e)

  records_front : {A : Type 0} (f : Record → Record → A) (x y : ℕ) → (leb (length rs) x || (leb (length rs) y || false)) ≡ false
      → f (record_at (rs ++ rest) x) (record_at (rs ++ rest) y) ≡ f (record_at rs x) (record_at rs y)
  records_front f x y e =
      let (ex, ey) = neither (leb (length rs) x) (leb (length rs) y || false) e in
      ap₂ f (record_front x ex) (record_front y (neither (leb (length rs) y) false ey).0)

  front_by : (k : Kind) (p x y z : ℕ) (a b c : Value) (v : ℤ) → some_not_earlier (length rs) (sorts_in (uses k)) (x ∷ y ∷ z ∷ []) ≡ false
      → trace_by k p (record_at (rs ++ rest) x) (record_at (rs ++ rest) y) (record_at (rs ++ rest) z) a b c v ≡ trace_by k p (record_at rs x) (record_at rs y) (record_at rs z) a b c v
  front_by BooleanConstant p x y z a b c v e = refl
  front_by BooleanUnknown p x y z a b c v e = refl
  front_by NaturalUnknown p x y z a b c v e = refl
  front_by IntegerUnknown p x y z a b c v e = refl
  front_by NumberConstant p x y z a b c v e = refl
  front_by Not p x y z a b c v e = refl
  front_by And p x y z a b c v e = refl
  front_by Or p x y z a b c v e = refl
  front_by Implies p x y z a b c v e = refl
  front_by Iff p x y z a b c v e = refl
  front_by Sum p x y z a b c v e = records_front (λ i j. trace_by Sum p i j missing a b c v) x y e
  front_by Difference p x y z a b c v e = records_front (λ i j. trace_by Difference p i j missing a b c v) x y e
  front_by Product p x y z a b c v e = records_front (λ i j. trace_by Product p i j missing a b c v) x y e
  front_by Choice p x y z a b c v e = records_front (λ i j. trace_by Choice p missing i j a b c v) y z (neither (leb (length rs) x) _ e).1
  front_by Greater p x y z a b c v e = records_front (λ i j. trace_by Greater p i j missing a b c v) x y e
  front_by Equal p x y z a b c v e = records_front (λ i j. trace_by Equal p i j missing a b c v) x y e

pub trace_front : (rs rest : List Record) (vs : List Value) (first : ℕ) (f : Fields) (r : Record) (k : Counts) → Passes rs first f r k → (v : ℤ)
    → trace_of rs vs f v ≡ trace_of (rs ++ rest) vs f v
unfolding trace_of
trace_front rs rest vs first f r k a v = sym (front_by rs rest f.kind f.p f.x f.y f.z _ _ _ v a.named)
