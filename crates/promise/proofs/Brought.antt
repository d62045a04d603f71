-- The two rows that a passing row brings to one denominator are earlier numbers. Assumes nothing.
use mathlib.Core.Path.{◌≡◌}
use mathlib.Core.Bool.{false, ◌||◌}
use mathlib.Core.List.{List, [], ◌∷◌}
use Prim.Native.Nat.{ℕ, ◌<◌}
use borrow.Author.Tests.{leb-false}
use lib.Dec.{leb}
use lib.ListN.{length}
use Rattle.circuit.specs.declared.Counts.{Counts}
use Rattle.sheet.specs.declared.Kind.{Kind}
use Rattle.sheet.specs.declared.Kind.TheVariants.{BooleanConstant, BooleanUnknown, NaturalUnknown, IntegerUnknown, NumberConstant, Not, And, Or, Implies, Iff, Sum, Difference, Product, Choice, Greater, Equal}
use Rattle.sheet.specs.declared.Fields.{Fields}
use Rattle.sheet.specs.declared.Record.{Record}
use Rattle.sheet.specs.Rows.{uses}
use Rattle.sheet.specs.Acceptance.{sorts_in, some_not_earlier}
use Rattle.sheet.proofs.Accepted.{sort_at, Sorted, Passes}
use Rattle.sheet.proofs.Tested.{neither, right_sort, two_sorts}
use Rattle.promise.specs.Promise.{brought_by}

pub record Earlier (earlier : List Record) (x : ℕ) : Type 0 where
  pub before : x < length earlier
  pub number : sort_at earlier x ≡ 1

-- what holds of no rows and of any two earlier numbers holds of those that a row brings together
module _ (earlier : List Record) (P : List ℕ → Type 0) (none : P []) (two : (x y : ℕ) → Earlier earlier x → Earlier earlier y → P (x ∷ y ∷ [])) where
  both : (x y : ℕ) → (leb (length earlier) x || (leb (length earlier) y || false)) ≡ false → (sort_at earlier x ≡ 1) × (sort_at earlier y ≡ 1) → P (x ∷ y ∷ [])
  both x y named (x_is, y_is) =
      let (hx, others) = neither (leb (length earlier) x) (leb (length earlier) y || false) named in
      let (hy, nothing) = neither (leb (length earlier) y) false others in
      two x y (record { before = leb-false (length earlier) x hx; number = x_is }) (record { before = leb-false (length earlier) y hy; number = y_is })

  by_kind : (k : Kind) (x y z : ℕ) → some_not_earlier (length earlier) (sorts_in (uses k)) (x ∷ y ∷ z ∷ []) ≡ false → Sorted earlier k x y z → P (brought_by k x y z)
  by_kind BooleanConstant x y z n s = none
  by_kind BooleanUnknown x y z n s = none
  by_kind NaturalUnknown x y z n s = none
  by_kind IntegerUnknown x y z n s = none
  by_kind NumberConstant x y z n s = none
  by_kind Not x y z n s = none
  by_kind And x y z n s = none
  by_kind Or x y z n s = none
  by_kind Implies x y z n s = none
  by_kind Iff x y z n s = none
  by_kind Sum x y z n s = both x y n (two_sorts (sort_at earlier x) 1 (sort_at earlier y) 1 s)
  by_kind Difference x y z n s = both x y n (two_sorts (sort_at earlier x) 1 (sort_at earlier y) 1 s)
  by_kind Product x y z n s = none
  by_kind Choice x y z n s =
      both y z (neither (leb (length earlier) x) _ n).1 (two_sorts (sort_at earlier y) 1 (sort_at earlier z) 1 (right_sort (sort_at earlier x) 0 _ s).1)
  by_kind Greater x y z n s = both x y n (two_sorts (sort_at earlier x) 1 (sort_at earlier y) 1 s)
  by_kind Equal x y z n s = both x y n (two_sorts (sort_at earlier x) 1 (sort_at earlier y) 1 s)

  pub brought_earlier : {first : ℕ} {f : Fields} {r : Record} {k : Counts} → Passes earlier first f r k → P (brought_by f.kind f.x f.y f.z)
  brought_earlier {f = f} p = by_kind f.kind f.x f.y f.z p.named p.sorted
