-- The clauses of a table name no variable but those that are made. Assumes nothing.
use Rattle.std.specs.Prelude.{Ok}
use mathlib.Core.Path.{◌≡◌, ap}
use mathlib.Core.List.{List, [], ◌∷◌, ◌++◌}
use Prim.Native.Nat.{ℕ, suc, ◌+◌, ◌-◌, ◌≤◌, ◌<◌}
use native.Mathlib.Omega.{arith}
use lib.ListN.{length}
use Rattle.circuit.specs.declared.Counts.{Counts}
use Rattle.circuit.specs.Literals.{Clause}
use Rattle.circuit.specs.Gates.{Gate, fixed, free, and, xor, mux, maj, gate_clauses}
use Rattle.circuit.specs.Circuits.{gates, clauses_from}
use Rattle.circuit.proofs.Wellformed.{WfGate, Wf}
use Rattle.circuit.proofs.Bounds.{bound, var_neg}
use Rattle.sheet.specs.declared.Fields.{Fields}
use Rattle.sheet.specs.Acceptance.{Sheet, accept}
use Rattle.sheet.specs.Steps.{cell_at, steps, cells, clauses_but_last, last_clause, clauses}
use Rattle.sheet.proofs.Accepted.{accepted_tells}
use Rattle.sheet.proofs.Counted.{first_named, cell_at_lem}
use Rattle.sheet.proofs.Total.{whole_table}

-- every literal is one of the first m variables'
abbrev pub AllNamed : ℕ → List Clause → Type 0
AllNamed m [] = Unit {0}
AllNamed m (c ∷ cs) = (bound c ≤ m) × AllNamed m cs

named-append : (m : ℕ) (cs ds : List Clause) → AllNamed m cs → AllNamed m ds → AllNamed m (cs ++ ds)
named-append m [] ds h k = k
named-append m (c ∷ cs) ds h k = (h.0, named-append m cs ds h.1 k)

gate_named : (m i : ℕ) → suc i ≤ m → (g : Gate) → WfGate i g → AllNamed m (gate_clauses i g)
gate_named m i h fixed w = (omega arith, tt)
gate_named m i h free w = tt
gate_named m i h (and a b) w =
    let p = var_neg a in
    let q = var_neg b in
    (omega arith, (omega arith, (omega arith, tt)))
gate_named m i h (xor a b) w =
    let p = var_neg a in
    let q = var_neg b in
    (omega arith, (omega arith, (omega arith, (omega arith, tt))))
gate_named m i h (mux c a b) w =
    let p = var_neg a in
    let q = var_neg b in
    let r = var_neg c in
    (omega arith, (omega arith, (omega arith, (omega arith, tt))))
gate_named m i h (maj a b c) w =
    let p = var_neg a in
    let q = var_neg b in
    let r = var_neg c in
    (omega arith, (omega arith, (omega arith, (omega arith, (omega arith, (omega arith, tt))))))

gates_named : (m n : ℕ) (gs : List Gate) → Wf n gs → n + length gs ≤ m → AllNamed m (clauses_from n gs)
gates_named m n [] w h = tt
gates_named m n (g ∷ gs) w h =
    named-append m (gate_clauses n g) (clauses_from (suc n) gs) (gate_named m n (omega arith) g w.0) (gates_named m (suc n) gs w.1 (omega arith))

-- of an accepted table
some_made : (rows : List Fields) → 0 < length (gates 0 (steps rows))
unfolding steps
some_made rows = omega arith

pub clauses_named : (table : List ℕ) (sheet : Sheet) → accept table ≡ Ok sheet → AllNamed sheet.counts.variables (clauses sheet.rows)
unfolding clauses clauses_but_last last_clause
clauses_named table sheet e =
    let a = accepted_tells table sheet e in
    let w = whole_table sheet a.total a.passed in
    let rows = sheet.rows in
    let n = length (gates 0 (steps rows)) in
    let some = some_made rows in
    let last = length rows - 1 in
    let c = cell_at_lem n some sheet.records (cells rows) w.fit last in
    let unit = first_named n some (cell_at (cells rows) last).literals c.lits.low in
    let v : sheet.counts.variables ≡ n = omega (arith, ap (λ (k : Counts). k.variables) a.counted, w.variables) in
    rw v (named-append n (clauses_but_last rows) (last_clause rows ∷ []) (gates_named n 0 (gates 0 (steps rows)) w.formed (omega arith)) (omega (arith, unit), tt))
