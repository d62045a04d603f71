-- The rows of an accepted sheet written one after the other: what the loop knows, a row more, and the end. Assumes nothing.
use mathlib.Core.Path.{◌≡◌, ap, ◌∙◌, subst}
use mathlib.Core.List.{List, [], ◌∷◌}
use Prim.Native.Nat.{ℕ, ◌+◌, ◌*◌, ◌≤◌, ◌<◌, min}
use native.Mathlib.Omega.{arith}
use lib.IntN.{ℤ}
use lib.ListN.{length, take, drop, get_or}
use Rattle.std.proofs.lemmas.List.{drop_all}
use Rattle.std.proofs.lemmas.List.Elements.{All-take}
use Rattle.circuit.specs.Literals.{Lit}
use Rattle.circuit.specs.Circuits.{out}
use Rattle.sheet.specs.declared.Fields.{Fields}
use Rattle.sheet.specs.declared.Record.{Record}
use Rattle.sheet.specs.declared.References.{References}
use Rattle.sheet.specs.Acceptance.{record_at, Sheet}
use Rattle.sheet.specs.Steps.{page, steps_from, steps, cells, map_for}
use Rattle.frame.specs.declared.Cursor.{Cursor}
use Rattle.frame.specs.declared.Made.{Made}
use Rattle.frame.specs.Frame.{front, over}
use Rattle.frame.specs.Written.{RoomFor}
use Rattle.numbers.specs.Bounds.{Denominator}
use Rattle.judge.specs.Bounds.{InLimits}
use Rattle.literal_map.specs.declared.Operand.{Operand}
use Rattle.literal_map.specs.Cells.{Held, Referred}
use Rattle.literal_map.specs.Rows.{RowMade}
use Rattle.row_writer.specs.Ready.{Ready, steps_over}
use Rattle.table.specs.Accepted.{Accepted}
use Rattle.table.proofs.Limits.{limits_at}
use Rattle.table.specs.Surveys.{places_of}
use Rattle.table.proofs.Rowwise.{Row, row, as_many, all_limits, no_fields, zeros, earlier_record}
use Rattle.writer.specs.Rows.{row_slots}
use Rattle.writer.proofs.Made.{rows_room}
use Rattle.writer.proofs.Walk.{Walk, walk_all, walk_room, walk_in, walk_operand, Stands, over_circuit, walk_ready, walk_next, walk_made, walk_map}

-- behind the first unit
abbrev pub start : Cursor
start = record { at = 2; next = 1 }

-- r rows are written
pub record Walking (sheet : Sheet) (map₀ slots₀ map slots : List ℤ) (to : Cursor) (r : ℕ) : Type 0 where
  pub some : 0 < to.next
  pub walk : Walk start sheet.rows map₀ slots₀ map slots to r (take r sheet.records) (drop r sheet.rows)

module _ {sheet : Sheet} (a : Accepted sheet) where
  pub walking_none : (map slots : List ℤ) → sheet.counts.slots ≤ length slots → Walking sheet map slots map slots start 0
  walking_none map slots h = record { some = omega arith; walk = walk_all sheet.rows (rows_room a h) }

  module _ {map₀ slots₀ map slots : List ℤ} {to : Cursor} {r : ℕ} (p : Walking sheet map₀ slots₀ map slots to r) where
    -- what does not change
    pub walking_long : length map ≡ length map₀
    walking_long = p.walk.long

    -- all rows are written
    pub walking_end : length sheet.rows ≤ r → (slots ≡ over 2 (row_slots sheet.rows) slots₀) × (to.at ≡ 2 + length (row_slots sheet.rows)) × (map ≡ front (map_for sheet.rows) map₀)
    unfolding row_slots map_for cells steps
    walking_end h =
        let w = subst (λ (fs : List Fields). Walk start sheet.rows map₀ slots₀ map slots to r (take r sheet.records) fs) (drop_all r sheet.rows h) p.walk in
        let m = walk_made w in
        (m.wrote.slots, m.wrote.place, walk_map w)

    -- row r is next: it is read of the rows, and the records of those that it refers to of the records
    module _ {rows : List Fields} (e : rows ≡ sheet.rows) {records : List Record} (g : records ≡ sheet.records) (h : r < length rows) (room : 48 * length sheet.rows ≤ length map₀) where
      abbrev f : Fields
      f = get_or rows r no_fields

      next : r < length sheet.rows
      next = rw e at h

      abbrev own : Row sheet r f
      own = rw e (row a r no_fields next)

      abbrev here : Walk start sheet.rows map₀ slots₀ map slots to r (take r sheet.records) (f ∷ drop (r + 1) sheet.rows)
      here = subst (λ (fs : List Fields). Walk start sheet.rows map₀ slots₀ map slots to r (take r sheet.records) fs) own.ahead p.walk

      referred : (x i : ℕ) → i ≡ min x r → x < r → get_or records i zeros ≡ record_at (take r sheet.records) x
      referred x i j k = rw (j, g) (earlier_record sheet.records r x zeros (omega (arith, next, as_many a)) k)

      pub walking_held : (x i : ℕ) → i ≡ min x r → Held map r x (get_or records i zeros)
      walking_held x i j k = rw (referred x i j k) (walk_in here p.some (omega (arith, p.walk.long, next)) x k)

      -- they stand in the map
      module _ {at : References ℕ} (j : at ≡ places_of r f) {of : References Operand}
          (x : Referred map r f.x (get_or records at.x zeros) of.x) (y : Referred map r f.y (get_or records at.y zeros) of.y) (z : Referred map r f.z (get_or records at.z zeros) of.z) where
        left : Stands here f.x of.x
        left = walk_operand here p.some f.x (referred f.x at.x (ap (λ (u : References ℕ). u.x) j)) x

        right : Stands here f.y of.y
        right = walk_operand here p.some f.y (referred f.y at.y (ap (λ (u : References ℕ). u.y) j)) y

        third : Stands here f.z of.z
        third = walk_operand here p.some f.z (referred f.z at.z (ap (λ (u : References ℕ). u.z) j)) z

        denominator : (i : ℕ) → Denominator (record_at (take r sheet.records) i).denominator
        denominator i = (limits_at (take r sheet.records) (All-take InLimits r sheet.records (all_limits a)) i).denominator

        pub walking_ready : Ready f of
        walking_ready = walk_ready here left right third denominator own.passes

        pub walking_room : RoomFor to (steps_over f of) slots
        walking_room = rw (over_circuit here left right third) (walk_room here)

        -- a row more
        pub walking_next : {map' slots' : List ℤ} {m : Made (List Lit)} → RowMade to (steps_over f of) slots slots' m → map' ≡ over (48 * r) (page m.value) map
            → Walking sheet map₀ slots₀ map' slots' m.to (r + 1)
        walking_next {map'} {slots'} {m} d w =
            let q = rw (over_circuit here left right third) at d in
            record {
              some = omega (arith, p.some, q.wrote.number);
              walk = rw own.front (walk_next here p.some own.passes (omega (arith, p.walk.long, next)) q w);
            }
