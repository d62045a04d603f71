-- Clauses in print are read back as the clauses. Assumes nothing.
use mathlib.Core.Path.{sym, ap, ◌∙◌}
use mathlib.Core.List.{List}
use mathlib.Core.Option.{some-injective}
use Prim.Native.Nat.{ℕ}
use native.Mathlib.Omega.{arith}
use Rattle.circuit.specs.Literals.{Clause}
use Rattle.sheet.specs.Steps.{clauses, slots_for}
use Rattle.sheet.specs.Texts.{dimacs}
use Rattle.sheet.specs.Dimacs.{read_dimacs}
use Rattle.sheet.proofs.Few.{counts_few}
use Rattle.sheet.proofs.Naming.{clauses_named}
use Rattle.sheet.proofs.Dimacs.{dimacs_back}
use Rattle.promise.specs.ReadBack.{DimacsReadBack, DimacsTellsTheClauses}
use Rattle.promise.proofs.Counts.{counts_are_made}

pub dimacs_read_back : DimacsReadBack
unfolding dimacs slots_for
dimacs_read_back table sheet e =
    let few = counts_few table sheet e in
    let made = (counts_are_made table sheet e).clause in
    rw made (dimacs_back sheet.counts.variables (clauses sheet.rows) (omega (arith, few)) (omega (arith, few, made)) (clauses_named table sheet e))

pub dimacs_tells_the_clauses : DimacsTellsTheClauses
dimacs_tells_the_clauses table₁ table₂ sheet₁ sheet₂ e₁ e₂ same =
    let read = some-injective _ _ (sym (dimacs_read_back table₁ sheet₁ e₁) ∙ ap read_dimacs same ∙ dimacs_read_back table₂ sheet₂ e₂) in
    (ap (λ (r : ℕ × List Clause). r.0) read, ap (λ (r : ℕ × List Clause). r.1) read)
