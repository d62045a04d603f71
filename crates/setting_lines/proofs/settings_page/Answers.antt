-- `setting_lines::settings_page` meets its contract. Assumes nothing.
use mathlib.Core.Path.{◌≡◌}
use Prim.Native.Nat.{◌+◌, ◌/◌, ◌<◌, min, max}
use native.Mathlib.Omega.{arith}
use lib.ListN.{length}
use Rattle.setting_lines.specs.Settings.{table_pieces}
use Rattle.print.proofs.Pages.{left_all, left_step, left_full, left_end}
use Rattle.setting_lines.proofs.Rows.{pieces_many, piece_fits, unknowns_more, unknowns_few, truth_bit}
use Rattle.setting_lines.proofs.settings_page.Goals as goal

pub returns-then-from-rows : goal.returns-then-from-rows
returns-then-from-rows c =
    let s = c.args in
    let many = pieces_many (length s.table.now / 8) 0 s.table.now s.numerators.now in
    let behind : max s.from (length s.table.now / 8) ≡ s.from = omega (arith, c.if-from-rows.true) in
    let done = left_end (left_all (table_pieces s.table.now s.numerators.now) s.from s.out.now) (rw many c.if-from-rows.true) (λ h. h) in
    record { answer = rw (many, behind) at done.answer; out = done.text }

pub loop-row-init : goal.loop-row-init
loop-row-init c =
    let before : min c.args.from (length c.args.table.now / 8) ≡ c.args.from = omega arith in
    record { number = rw before c.unknowns_before-used.ensures; page = left_all _ _ _ }

pub returns-then-out-size-lt-PIECE : goal.returns-then-out-size-lt-PIECE
returns-then-out-size-lt-PIECE c =
    let s = c.args in
    let many = pieces_many (length s.table.now / 8) 0 s.table.now s.numerators.now in
    let done = left_full c.loop-row.invariant.page (rw many (omega arith)) c.if-out-size-lt-PIECE.true in
    record { answer = done.answer; out = done.text }

pub put_setting-size-requires : goal.put_setting-size-requires
put_setting-size-requires c =
    let here : min c.loop-row.row (length c.args.table.now / 8) ≡ c.loop-row.row = omega arith in
    record { out_room = omega arith; table_room = omega arith; used_is = rw here at c.loop-row.invariant.number }

pub overflow_add-used : goal.overflow_add-used
overflow_add-used c =
    let table = c.args.table.now in
    let row = c.loop-row.row in
    let here : min row (length table / 8) ≡ row = omega arith in
    let number = rw here at c.loop-row.invariant.number in
    let one = rw (c.is_unknown_at.ensures, truth_bit) at c.from-used.ensures in
    omega (arith, number, one, unknowns_more row table, unknowns_few (row + 1) table)

pub loop-row-preserved : goal.loop-row-preserved
loop-row-preserved c =
    let s = c.args in
    let table = s.table.now in
    let row = c.loop-row.row in
    let h : row < length table / 8 = omega arith in
    let here : min row (length table / 8) ≡ row = omega arith in
    let next : min (row + 1) (length table / 8) ≡ row + 1 = omega arith in
    let number = rw here at c.loop-row.invariant.number in
    let many = pieces_many (length table / 8) 0 table s.numerators.now in
    let short = piece_fits row (length table / 8) table s.numerators.now h in
    record {
      number = rw (next, unknowns_more row table, c.from-used.ensures, truth_bit, c.is_unknown_at.ensures, number);
      page = left_step c.loop-row.invariant.page (rw many h) (omega arith) short c.put_setting-size.ensures;
    }

pub returns : goal.returns
returns c =
    let s = c.args in
    let many = pieces_many (length s.table.now / 8) 0 s.table.now s.numerators.now in
    let done = left_end c.loop-row.invariant.page (rw many (omega arith)) (λ h. rw many (omega (arith, many, c.loop-row.auto.row-end))) in
    let behind : max s.from (length s.table.now / 8) ≡ length s.table.now / 8 = omega arith in
    record { answer = rw (many, behind) at done.answer; out = done.text }
