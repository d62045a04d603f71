-- The value of a literal under a model's bytes, and the slots that name one of its variables. Assumes nothing.
use Rattle.std.specs.Prelude.{Bool, List, map, ℕ, ◌≤◌, ◌<◌, ltb, length, get_or, ℤ, pos, nat_abs}
use Rattle.circuit.specs.Literals.{lit_true}
use Rattle.sheet.specs.Calls.{assigned}
use Rattle.frame.specs.Literals.{unslot, IsLit}

-- whether each byte is 0 or 1
abbrev pub are_bits : List ℕ → List Bool
are_bits model = map (λ b. ltb b 2) model

-- the value of the literal in a slot
unfoldable pub value : List ℕ → ℤ → Bool
value model x = lit_true (assigned model) (unslot x)

-- a literal of one of n variables
pub record LitOf (n : ℕ) (x : ℤ) : Type 0 where
  pub lit : IsLit x
  pub within : nat_abs x ≤ n

abbrev pub AllLitOf : ℕ → List ℤ → Type 0
AllLitOf n l = (i : ℕ) → i < length l → LitOf n (get_or l i (pos 0))

-- slots of clauses: each is 0 or a literal of one of n variables
pub record SlotOf (n : ℕ) (x : ℤ) : Type 0 where
  pub within : nat_abs x ≤ n
  pub fits : nat_abs x < 2147483648

abbrev pub AllSlotOf : ℕ → List ℤ → Type 0
AllSlotOf n l = (i : ℕ) → i < length l → SlotOf n (get_or l i (pos 0))
