-- Every assignment that meets all clauses but the last carries exactly one choice of values within the declared bits, and every row
-- of it reads as its exact value at them. Assumes nothing.
use mathlib.Core.Path.{◌≡◌, refl, sym, ◌∙◌, ap, ap₂, subst}
use mathlib.Core.Bool.{Bool, true}
use mathlib.Core.List.{List, [], ◌∷◌, ◌++◌, append_assoc}
use Prim.Native.Nat.{ℕ}
use lib.IntN.{ℤ}
use Rattle.circuit.specs.declared.Counts.{Counts}
use Rattle.circuit.specs.Literals.{truth, Assignment, lit_true, all_true}
use Rattle.circuit.specs.Circuits.{gates}
use Rattle.circuit.specs.Counting.{◌⊕◌, the_first}
use Rattle.circuit.proofs.Assignments.{Holds, holds_of, frees, frees_length}
use Rattle.circuit.proofs.Meaning.{Sem, sem_ret, sem_new, sem_bind, sound}
use Rattle.sheet.specs.declared.Fields.{Fields}
use Rattle.sheet.specs.declared.Record.{Record}
use Rattle.sheet.specs.Values.{Value, boolean, fraction, row_val, values_from, row_values}
use Rattle.sheet.specs.Acceptance.{Sheet}
use Rattle.sheet.specs.Steps.{Cell, steps_from, steps, cells, clauses_but_last, read_as, read_each, read_rows, of_unknowns, settings, unknown_bits, bits_by}
use Rattle.sheet.specs.Rows.{uses}
use Rattle.sheet.proofs.Accepted.{Passed}
use Rattle.sheet.proofs.Counted.{CellsFor}
use Rattle.sheet.proofs.Meant.{Shows, ShowAll, show_snoc, row_sem}
use Rattle.sheet.proofs.Total.{Whole}
use Rattle.promise.proofs.Choices.{first, after, AllIn, Enough, Ranged, FromBits, read_all, read_all_lem, values_new, chosen_found}

table_sem : (s : Assignment) → lit_true s truth ≡ true → (l : List Bool) (rows : List Fields) (rs : List Record) (cs : List Cell) (vs : List Value) → ShowAll s rs cs vs
    → (so : Counts) (records : List Record) (total : Counts) → Passed rs so rows records total → (values : List ℤ) → AllIn rows values
    → Sem s (unknown_bits rows values ++ l) (steps_from cs rows) l (λ out. ShowAll s records out (values_from vs rows values))
table_sem s et l [] rs cs vs h so records total p values a = sem_ret (subst (λ (r : List Record). ShowAll s r cs vs) p.0 h)
table_sem s et l (f ∷ rows) rs cs vs h so records total p values a =
    let r = p.0 in
    let k = p.1 in
    let v = row_val vs f (first values) in
    let rest = unknown_bits rows (after f values) ++ l in
    subst (λ (bits : List Bool). Sem s bits (steps_from cs (f ∷ rows)) l (λ out. ShowAll s records out (values_from vs (f ∷ rows) values)))
    (sym (append_assoc (bits_by (uses f.kind) f.p (first values)) (unknown_bits rows (after f values)) l))
    (sem_bind (row_sem s et rest rs cs vs h so.slots f r k p.2 (first values) a.0) (λ c shows.
    table_sem s et l rows (rs ++ r ∷ []) (cs ++ c ∷ []) (vs ++ v ∷ []) (show_snoc s rs cs vs r c v h shows) (so ⊕ k) records total p.3 (after f values) a.1))

-- what an assignment shows, it reads
shown_read : (s : Assignment) (r : Record) (c : Cell) (v : Value) → Shows s r c v → r.denominator ≡ c.denominator → read_as s r c.literals ≡ v
shown_read s r c (boolean b) h e = rw h.sorted (ap boolean h.reads)
shown_read s r c (fraction n d) h e = rw h.sorted (ap₂ fraction h.reads.reads (e ∙ h.under))

all_read : (s : Assignment) (n : ℕ) (rs : List Record) (cs : List Cell) (vs : List Value) → ShowAll s rs cs vs → CellsFor n rs cs → read_each s rs cs ≡ vs
all_read s n [] [] [] h f = refl
all_read s n [] [] (v ∷ vs) h f = absurd h
all_read s n [] (c ∷ cs) vs h f = absurd h
all_read s n (r ∷ rs) [] vs h f = absurd h
all_read s n (r ∷ rs) (c ∷ cs) [] h f = absurd h
all_read s n (r ∷ rs) (c ∷ cs) (v ∷ vs) h f = ap₂ ◌∷◌ (shown_read s r c v h.0 f.0.under) (all_read s n rs cs vs h.1 f.1)

-- of a sheet whose rows pass
module _ (sheet : Sheet) (total : Counts) (p : Passed [] the_first sheet.rows sheet.records total) (w : Whole sheet total) where
  -- an assignment in which the gates hold and the free bits are those of chosen values
  pub record Reading (s : Assignment) (values : List ℤ) : Type 0 where
    pub shows : ShowAll s sheet.records (cells sheet.rows) (row_values sheet.rows values)
    pub rows : read_rows sheet s ≡ row_values sheet.rows values
    pub settled : settings sheet s ≡ values

  pub carried : (s : Assignment) (values : List ℤ) → Enough sheet.rows values → AllIn sheet.rows values → Holds s 0 (gates 0 (steps sheet.rows))
      → frees s 0 (gates 0 (steps sheet.rows)) ≡ unknown_bits sheet.rows values → Reading s values
  unfolding steps cells read_rows row_values settings
  carried s values n a h e =
      let m : Sem s (frees s 0 (gates 0 (steps sheet.rows)) ++ []) (steps sheet.rows) [] (λ out. ShowAll s sheet.records out (row_values sheet.rows values))
      = rw e (sem_new (λ t et. table_sem s h.0 [] sheet.rows [] [] [] tt the_first sheet.records total p values a)) in
      let shows = (sound s 0 [] m h).1 in
      let rows : read_rows sheet s ≡ row_values sheet.rows values = all_read s _ sheet.records (cells sheet.rows) (row_values sheet.rows values) shows w.fit in
      record {
        shows = shows;
        rows = rows;
        settled = ap (of_unknowns sheet.rows) (rows ∙ values_new sheet.rows [] values) ∙ chosen_found sheet.rows [] values n a;
      }

  -- any assignment that meets every clause but the last carries the values that its unknowns read as
  pub model_carries : (s : Assignment) → Ranged sheet.rows → all_true s (clauses_but_last sheet.rows) ≡ true
      → FromBits sheet.rows (settings sheet s) (frees s 0 (gates 0 (steps sheet.rows))) × Reading s (settings sheet s)
  unfolding clauses_but_last
  model_carries s o m =
      let l = frees s 0 (gates 0 (steps sheet.rows)) in
      let c = read_all_lem sheet.rows l o (frees_length s 0 (gates 0 (steps sheet.rows)) ∙ w.asked) in
      let r = carried s (read_all sheet.rows l) c.number c.inside (holds_of s 0 (gates 0 (steps sheet.rows)) m) (sym c.bits) in
      subst (λ (values : List ℤ). FromBits sheet.rows values l × Reading s values) (sym r.settled) (c, r)
