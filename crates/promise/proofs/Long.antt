-- Each row has its record's width in literals, and each of two numbers brought to one denominator the width that acceptance counts it at.
-- Assumes nothing.
use mathlib.Core.Path.{◌≡◌, sym, subst}
use mathlib.Core.List.{List, [], ◌∷◌, ◌++◌}
use Prim.Native.Nat.{ℕ, ◌<◌}
use native.Mathlib.Omega.{arith}
use lib.ListN.{length, get_or-append}
use Rattle.circuit.specs.declared.Counts.{Counts}
use Rattle.circuit.specs.Circuits.{ret, gates}
use Rattle.circuit.specs.Counting.{the_first}
use Rattle.circuit.proofs.Costs.{State, Cost, cost_ret}
use Rattle.circuit.proofs.Lengths.{cost_sound}
use Rattle.sheet.specs.declared.Fields.{Fields}
use Rattle.sheet.specs.declared.Record.{Record}
use Rattle.sheet.specs.Acceptance.{width_over, missing, record_at, Sheet}
use Rattle.sheet.specs.Steps.{Cell, cell_at, steps, cells}
use Rattle.sheet.proofs.Accepted.{meeting_at, Passed, passed_behind}
use Rattle.sheet.proofs.Counted.{CellsFor, cell_at_lem, brought_cost}
use Rattle.sheet.proofs.Total.{whole_table}
use Rattle.promise.specs.Promise.{brought_by, both_brought, LongBoth, Long}
use Rattle.promise.proofs.Brought.{Earlier, brought_earlier}

-- truth is made before every row
pub some_made : (before : List Fields) → 0 < length (gates 0 (steps before))
unfolding steps
some_made before = omega arith

module _ (earlier rest : List Record) (made : ℕ) (h : 0 < made) (cs : List Cell) (ok : CellsFor made earlier cs) where
  both : (x y : ℕ) → Earlier earlier x → Earlier earlier y → LongBoth (earlier ++ rest) made cs (x ∷ y ∷ [])
  both x y a b =
      let start : State = record { place = made; asked = 0; clauses = 0; slots = 0 } in
      let cost : Cost start (both_brought (cell_at cs x) (cell_at cs y)) (λ i both. (length both.0 ≡ width_over (meeting_at earlier x y) (record_at earlier x)) × (length both.1 ≡ width_over (meeting_at earlier x y) (record_at earlier y)))
      = brought_cost start h earlier cs ok x y (λ xs ys. ret (xs, ys)) (λ m xs ys g p k l. cost_ret (k.size, l.size)) in
      rw (get_or-append earlier rest missing x a.before, get_or-append earlier rest missing y b.before) (cost_sound cost).1

pub all_long : (sheet : Sheet) (total : Counts) → Passed [] the_first sheet.rows sheet.records total
    → (before : List Fields) (f : Fields) (behind : List Fields) → sheet.rows ≡ before ++ f ∷ behind → Long sheet before f
all_long sheet total p before f behind e =
    let q = passed_behind before f behind sheet.records total (subst (λ (rows : List Fields). Passed [] the_first rows sheet.records total) e p) in
    let made = length (gates 0 (steps before)) in
    let ok = (whole_table (record { rows = before; records = q.earlier; counts = q.so }) q.so q.passed).fit in
    record {
      own = (cell_at_lem _ (some_made sheet.rows) sheet.records (cells sheet.rows) (whole_table sheet total p).fit (length before)).lits.size;
      expanded = subst (λ (records : List Record). LongBoth records made (cells before) (brought_by f.kind f.x f.y f.z)) (sym q.front)
          (brought_earlier q.earlier (LongBoth (q.earlier ++ q.own ∷ q.rest) made (cells before)) tt (both q.earlier (q.own ∷ q.rest) made (some_made before) (cells before) ok) q.passes);
    }
