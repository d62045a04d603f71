-- 256 records, 12,288 places of the map: no accepted table needs more, so writing refuses as the programs do. Assumes nothing.
use Rattle.std.specs.Prelude.{Ok, Err}
use mathlib.Core.Path.{◌≡◌, refl}
use mathlib.Core.List.{List}
use Prim.Native.Nat.{ℕ, ◌*◌, ◌≤◌}
use native.Mathlib.Omega.{arith}
use borrow.Author.Tests.{le-ltb}
use Rattle.sheet.specs.Acceptance.{Outcome, Sheet, accept}
use Rattle.sheet.specs.Calls.{row_count, checking, writing}
use Rattle.sheet.proofs.Accepted.{accepted_tells}
use Rattle.program.specs.Sheets.{sheet_of}

few_rows : (table : List ℕ) (sheet : Sheet) → accept table ≡ Ok sheet → row_count sheet ≤ 256
few_rows table sheet e = (accepted_tells table sheet e).few

pub writing_sheet : (table : List ℕ) (map : ℕ) → 12288 ≤ map → writing table 256 map 16384 ≡ sheet_of table
unfolding writing checking
writing_sheet table map h = by (accept table) refl
  where
    by : (o : Outcome Sheet) → accept table ≡ o → writing table 256 map 16384 ≡ sheet_of table
    by (Err refusal) e = rw e
    by (Ok sheet) e =
        let f = few_rows table sheet e in
        rw (e, le-ltb 256 (row_count sheet) f, le-ltb map (48 * row_count sheet) (omega arith))
