-- The rows of an accepted sheet evaluated one after the other: what the loop knows, a row more, and the end. Assumes nothing.
use Rattle.std.proofs.Common.{◌≡◌, false, refl, sym, ap, ◌∙◌, List, [], ◌∷◌, ◌++◌, map, ℕ, ◌+◌, ◌≤◌, ◌<◌, min, length, get_or, take, drop, ℤ, pos, arith}
use lib.ListN.{set, length-append, length-map, get_or-append, get_or-map, drop_of_length-le}
use Rattle.std.proofs.lemmas.List.{map-append}
use lib.Seq.{drop-drop, length-take-le}
use mir.Facts.{to_z-of_z}
use mir.Syntax.{w64}
use mir.Val.{SFits, to_z, of_z}
use Rattle.whole.specs.Bits.{bit}
use Rattle.sheet.specs.declared.Fields.{Fields}
use Rattle.sheet.specs.declared.Record.{Record}
use Rattle.sheet.specs.declared.References.{References}
use Rattle.sheet.specs.Rows.{uses, is_unknown}
use Rattle.sheet.specs.Values.{Value, boolean, numerator, value_at, row_val, values_from, row_values, Chosen}
use Rattle.sheet.specs.Acceptance.{Sheet}
use Rattle.sheet.proofs.Widths.{AllHold, all_hold_snoc, row_fits}
use Rattle.promise.proofs.Choices.{first, AllIn, within_all}
use Rattle.frame.specs.Frame.{front}
use Rattle.frame.proofs.Frames.{length_over, over_none, over_zero, over-set, front_then}
use Rattle.unknown.proofs.Taken.{bit_most, next_value}
use Rattle.table.specs.Accepted.{Accepted}
use Rattle.table.specs.Surveys.{places_of}
use Rattle.table.proofs.Rowwise.{zeros, no_fields, earlier_record, as_many, Row, row}
use Rattle.row_value.specs.declared.Operand.{Operand}
use Rattle.row_value.specs.Operands.{row_over, Ready}
use Rattle.row_value.proofs.Accepting.{OperandAt, row_ready, row_value}

-- r rows are evaluated, and took i values
pub record Filling (sheet : Sheet) (values results₀ results : List ℤ) (i r : ℕ) : Type 0 where
  pub earlier : List Value
  pub many : length earlier ≡ r
  pub hold : AllHold (take r sheet.records) earlier
  pub inside : AllIn (drop r sheet.rows) (drop i values)
  pub taken : i ≤ r
  pub same : values_from earlier (drop r sheet.rows) (drop i values) ≡ row_values sheet.rows values
  pub done : results ≡ front (map numerator earlier) results₀

pub filling_none : {sheet : Sheet} {values results : List ℤ} → Chosen sheet.rows values → Filling sheet values results results 0 0
unfolding row_values front
filling_none {sheet} {values} chosen = record {
  earlier = [];
  many = refl;
  hold = tt;
  inside = within_all sheet.rows values chosen.within;
  taken = omega arith;
  same = refl;
  done = refl;
}

-- ---- what is written over the front

length_front : (us l : List ℤ) → length us ≤ length l → length (front us l) ≡ length l
length_front us l h = ap length (sym (over_zero us l)) ∙ length_over 0 us l (omega arith)

front-set : (us l : List ℤ) (n : ℕ) (x : ℤ) → n ≡ length us → n < length l → set (front us l) n x ≡ front (us ++ x ∷ []) l
front-set us l n x e h =
    sym (over_none (n + 1) (set (front us l) n x)) ∙ over-set n x [] (front us l) (rw (length_front us l (omega arith)) h) ∙ front_then n us (x ∷ []) l e

numerator_at : (vs : List Value) (l : List ℤ) (x : ℕ) → x < length vs → get_or (front (map numerator vs) l) x (pos 0) ≡ numerator (value_at vs x)
unfolding front
numerator_at vs l x h = get_or-append (map numerator vs) _ (pos 0) x (rw length-map h) ∙ get_or-map numerator vs x (boolean false)

-- ---- the rows that a row refers to, as the loop reads them

abbrev pub operand : (results : List ℤ) (records : List Record) (place : ℕ) → Operand
operand results records place = record { numerator = to_z w64 (of_z w64 (get_or results place (pos 0))); denominator = (get_or records place zeros).denominator }

abbrev pub operands : (results : List ℤ) (records : List Record) (at : References ℕ) → References Operand
operands results records at = record { x = operand results records at.x; y = operand results records at.y; z = operand results records at.z }

pub record Words (results : List ℤ) (at : References ℕ) : Type 0 where
  pub x : SFits w64 (get_or results at.x (pos 0))
  pub y : SFits w64 (get_or results at.y (pos 0))
  pub z : SFits w64 (get_or results at.z (pos 0))

module _ {sheet : Sheet} {values results₀ results : List ℤ} {i r : ℕ} (p : Filling sheet values results₀ results i r) where
  -- all rows are evaluated
  pub filling_end : length sheet.rows ≤ r → results ≡ front (map numerator (row_values sheet.rows values)) results₀
  filling_end h =
      let none : drop r sheet.rows ≡ [] = drop_of_length-le sheet.rows h in
      let all : p.earlier ≡ row_values sheet.rows values = rw none at p.same in
      rw (sym all) p.done

  -- row r is next
  module _ (a : Accepted sheet) (room : length sheet.rows ≤ length results₀) (h : r < length sheet.rows) {f : Fields} (is : f ≡ get_or sheet.rows r no_fields)
      {records : List Record} (same : records ≡ sheet.records) {at : References ℕ} (placed : at ≡ places_of r f) (words : Words results at) where
    abbrev of : References Operand
    of = operands results records at

    abbrev before : List Record
    before = take r sheet.records

    is_row : Row sheet r f
    is_row = rw is (row a r no_fields h)

    operand_at : (x : ℕ) {j : ℕ} → j ≡ min x r → SFits w64 (get_or results j (pos 0)) → x < length before → OperandAt before p.earlier x (operand results records j)
    operand_at x {j} q fits k =
        let l : x < r = omega (arith, k, length-take-le r sheet.records (omega (arith, as_many a))) in
        let e : j ≡ x = omega arith in
        record {
          is_numerator = to_z-of_z fits ∙ rw (e, p.done) (numerator_at p.earlier results₀ x (omega (arith, p.many)));
          is_denominator = rw (same, q) (ap (λ (o : Record). o.denominator) (earlier_record sheet.records r x zeros (omega (arith, as_many a)) l));
        }

    at_x : f.x < length before → OperandAt before p.earlier f.x of.x
    at_x = operand_at f.x (ap (λ (o : References ℕ). o.x) placed) words.x

    at_y : f.y < length before → OperandAt before p.earlier f.y of.y
    at_y = operand_at f.y (ap (λ (o : References ℕ). o.y) placed) words.y

    at_z : f.z < length before → OperandAt before p.earlier f.z of.z
    at_z = operand_at f.z (ap (λ (o : References ℕ). o.z) placed) words.z

    pub filling_ready : Ready f.kind of
    filling_ready = row_ready before p.earlier p.hold of is_row.at f _ _ is_row.passes at_x at_y at_z

    pub filling_next : {n : ℤ} → n ≡ numerator (row_over of f (get_or values i (pos 0))) → Filling sheet values results₀ (set results r n) (i + bit (is_unknown (uses f.kind))) (r + 1)
    filling_next {n} g =
        let v = row_val p.earlier f (first (drop i values)) in
        let next : first (drop i values) ≡ get_or values i (pos 0) = next_value values i in
        let value = row_value before p.earlier p.hold of is_row.at f _ _ is_row.passes at_x at_y at_z (first (drop i values)) in
        let number : n ≡ numerator v = g ∙ ap (λ (w : ℤ). numerator (row_over of f w)) (sym next) ∙ ap numerator value in
        let d = drop-drop (bit (is_unknown (uses f.kind))) i values in
        let all = rw is_row.ahead at p.inside in
        record {
          earlier = p.earlier ++ v ∷ [];
          many = length-append p.earlier (v ∷ []) ∙ omega (arith, p.many);
          hold = rw is_row.front (all_hold_snoc before p.earlier _ v p.hold (row_fits before p.earlier p.hold is_row.at f _ _ is_row.passes (first (drop i values)) all.0));
          inside = rw (sym d) all.1;
          taken = omega (arith, p.taken, bit_most (is_unknown (uses f.kind)));
          same = rw (sym d) (ap (λ (fs : List Fields). values_from p.earlier fs (drop i values)) (sym is_row.ahead) ∙ p.same);
          done = rw (p.done, number) (front-set (map numerator p.earlier) results₀ r (numerator v) (sym (length-map p.earlier numerator ∙ p.many)) (omega arith) ∙ ap (λ (l : List ℤ). front l results₀) (sym (map-append numerator p.earlier (v ∷ []))));
        }
