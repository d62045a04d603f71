-- The paper's assignment that extends chosen values holds what the traces say, gate by gate. Assumes nothing.
use mathlib.Core.Path.{◌≡◌, refl, sym, ◌∙◌, ap}
use mathlib.Core.Bool.{Bool, true}
use mathlib.Core.List.{List, [], ◌∷◌, ◌++◌, append_assoc}
use native.Mathlib.Omega.{arith}
use lib.ListN.{length}
use lib.IntN.{ℤ}
use Rattle.circuit.specs.declared.Counts.{Counts}
use Rattle.circuit.specs.Literals.{truth, Assignment, lit_true}
use Rattle.circuit.specs.Circuits.{gates, run}
use Rattle.circuit.specs.Counting.{◌⊕◌, the_first}
use Rattle.circuit.proofs.Wellformed.{count}
use Rattle.circuit.proofs.Assignments.{frees, run_length, run_frees, run_holds}
use Rattle.sheet.specs.declared.Fields.{Fields}
use Rattle.sheet.specs.declared.Record.{Record}
use Rattle.sheet.specs.Rows.{uses}
use Rattle.sheet.specs.Values.{Value, row_val}
use Rattle.sheet.specs.Steps.{Cell, steps_from, steps, unknown_bits, bits_by, extension}
use Rattle.sheet.proofs.Accepted.{Passed, passed_front}
use Rattle.sheet.proofs.Meant.{ShowAll, show_snoc, row_sem}
use Rattle.promise.proofs.Choices.{first, after, AllIn, within_all, all_bits_many}
use Rattle.promise.proofs.Promise.{known}
use Rattle.trace.specs.Traces.{trace_of, traces_from, traces, ExtensionTraced}
use Rattle.trace.proofs.Tracing.{Tracing, trace_ret, trace_new, trace_bind, trace_sem, trace_sound}
use Rattle.trace.proofs.Fitting.{FitAll, fit_snoc}
use Rattle.trace.proofs.Earlier.{trace_front}
use Rattle.trace.proofs.Row.{row_traced}

table_traced : (s : Assignment) → lit_true s truth ≡ true → (l : List Bool) (rows : List Fields) (rs : List Record) (cs : List Cell) (vs : List Value) → ShowAll s rs cs vs → FitAll rs cs
    → (so : Counts) (records : List Record) (total : Counts) → Passed rs so rows records total → (values : List ℤ) → AllIn rows values
    → Tracing s (unknown_bits rows values ++ l) (steps_from cs rows) l (traces_from records vs rows values) (λ out. Unit {0})
table_traced s et l [] rs cs vs h g so records total p values a = trace_ret tt
table_traced s et l (f ∷ rows) rs cs vs h g so records total p values a =
    let r = p.0 in
    let k = p.1 in
    let v = row_val vs f (first values) in
    let rest = unknown_bits rows (after f values) ++ l in
    let (behind, e) = passed_front (f ∷ rows) rs so records total p in
    let same : trace_of rs vs f (first values) ≡ trace_of records vs f (first values)
    = trace_front rs behind vs so.slots f r k p.2 (first values) ∙ ap (λ (q : List Record). trace_of q vs f (first values)) (sym e) in
    rw (append_assoc (bits_by (uses f.kind) f.p (first values)) (unknown_bits rows (after f values)) l, ← same)
    (trace_bind (trace_sem (row_traced s et rest rs cs vs h g so.slots f r k p.2 (first values)) (row_sem s et rest rs cs vs h so.slots f r k p.2 (first values) a.0))
    (λ c (fits, shows). table_traced s et l rows (rs ++ r ∷ []) (cs ++ c ∷ []) (vs ++ v ∷ []) (show_snoc s rs cs vs r c v h shows) (fit_snoc rs cs r c g fits) (so ⊕ k) records total p.3 (after f values) a.1))

pub extension_traced : ExtensionTraced
unfolding extension steps traces
extension_traced table sheet e values chosen =
    let k = known table sheet e in
    let gs = gates 0 (steps sheet.rows) in
    let bits = unknown_bits sheet.rows values in
    let s = run [] gs bits in
    let enough : length bits ≡ count gs = all_bits_many sheet.rows values ∙ sym k.whole.asked in
    let h = run_holds [] gs bits k.whole.formed enough in
    let held : Tracing s (frees s 0 gs ++ []) (steps sheet.rows) [] (traces sheet.records sheet.rows values) (λ out. Unit {0})
    = rw (run_frees [] gs bits enough)
    (trace_new refl (λ t et. table_traced s h.0 [] sheet.rows [] [] [] tt tt the_first sheet.records k.total k.passed values (within_all sheet.rows values chosen.within))) in
    trace_sound 0 [] held h (omega (arith, run_length [] gs bits))
