-- `decode::put_settings` meets its contract. Assumes nothing.
use mathlib.Core.Path.{sym, ap, ◌∙◌}
use mathlib.Core.List.{List}
use Prim.Native.Nat.{◌*◌}
use native.Mathlib.Omega.{arith}
use borrow.Author.Rules.{rules}
use lib.ListN.{get_or}
use mir.Syntax.{w64}
use mir.Val.{SFits}
use mir.Facts.{to_z-of_z}
use Rattle.sheet.specs.declared.Fields.{Fields}
use Rattle.sheet.specs.declared.Record.{Record}
use Rattle.frame.proofs.Frames.{rest_all}
use Rattle.table.proofs.Rowwise.{no_fields, zeros}
use Rattle.decode.proofs.Rows.{map_long}
use Rattle.decode.proofs.Putting.{putting_none, putting_end, putting_page, putting_passed, putting_room, putting_more}
use Rattle.decode.proofs.put_settings.Goals as goal
use Rattle.decode.proofs.put_settings.Goals.{then-is_unknown, else-is_unknown}

pub loop-r-init : goal.loop-r-init
loop-r-init c = putting_none c.args.sheet.now c.args.model.now c.args.values.now c.requires.room

pub slice_bounds-setting-count : goal.slice_bounds-setting-count
slice_bounds-setting-count c = omega (arith, map_long c.requires.written, c.places.ensures, rw c.rows-f-items.ensures.rows at c.loop-r-test.true)

pub slice_bounds-setting-start : goal.slice_bounds-setting-start
slice_bounds-setting-start c =
    let h = map_long c.requires.written in
    let k = c.places.ensures in
    let m = rw c.rows-f-items.ensures.rows at c.loop-r-test.true in
    search rules

pub setting-requires : goal.setting-requires
setting-requires c =
    let e = c.rows-f-items.ensures.rows in
    rw (c.places.ensures, rest_all (48 * c.loop-r.r) c.args.map.now)
    (putting_page c.loop-r.invariant c.requires.written (rw e at c.loop-r-test.true) (ap (λ (fs : List Fields). get_or fs c.loop-r.r no_fields) e) (ap (λ (rs : List Record). get_or rs c.loop-r.r zeros) c.records-records.ensures.records))

pub bounds-values-n : goal.bounds-values-n
bounds-values-n c =
    let e = c.rows-f-items.ensures.rows in
    putting_room c.loop-r.invariant c.requires.written (rw e at c.loop-r-test.true) (ap (λ (fs : List Fields). get_or fs c.loop-r.r no_fields) e) (ap (λ (rs : List Record). get_or rs c.loop-r.r zeros) c.records-records.ensures.records)
    (sym c.is_unknown.ensures ∙ c.if-is_unknown.true)

pub loop-r-preserved : goal.loop-r-preserved
loop-r-preserved c =
    let e = c.rows-f-items.ensures.rows in
    let f = ap (λ (fs : List Fields). get_or fs c.loop-r.r no_fields) e in
    let own = ap (λ (rs : List Record). get_or rs c.loop-r.r zeros) c.records-records.ensures.records in
    let h = rw e at c.loop-r-test.true in
    elim c.if-is_unknown.branch [
      | then-is_unknown b ↦
          let v = rw (b.places.ensures, rest_all (48 * c.loop-r.r) c.args.map.now) at b.setting.ensures in
          let q : SFits w64 b.setting.result = search rules in
          rw (b.values-is, b.n-is, to_z-of_z q, v) (putting_more c.loop-r.invariant c.requires.written h f own (sym c.is_unknown.ensures ∙ b.if-is_unknown.true))
      | else-is_unknown b ↦ rw (b.values-is, b.n-is) (putting_passed c.loop-r.invariant c.requires.written h f own (sym c.is_unknown.ensures ∙ b.if-is_unknown.false))
    ]

pub returns : goal.returns
returns c = putting_end c.loop-r.invariant (rw c.rows-f-items.ensures.rows at c.loop-r-test.false)
