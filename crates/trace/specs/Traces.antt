-- What each gate of a row holds, in order of making, from the exact values and the widths of the rows that it refers to. No literal is
-- needed for it: the bits of a row are those of its value. Assumes nothing.
use Rattle.std.specs.Prelude.{Ok, ◌≡◌, Bool, true, false, not, ◌&&◌, List, [], ◌∷◌, ◌++◌, ℕ, zero, suc, ◌+◌, ◌/◌, eqb, get_or, drop, ℤ, pos, negsuc, ◌+ℤ◌, ◌-ℤ◌}
use Rattle.whole.specs.Tests.{if◌then◌otherwise◌, eq_z}
use Rattle.whole.specs.Bits.{bit, odd, half, bits_of, fewest}
use Rattle.circuit.specs.Gates.{xor_of, mux_of, maj_of}
use Rattle.sheet.specs.declared.Kind.{Kind}
use Rattle.sheet.specs.declared.Kind.TheVariants.{BooleanConstant, BooleanUnknown, NaturalUnknown, IntegerUnknown, NumberConstant, Not, And, Or, Implies, Iff, Sum, Difference, Product, Choice, Greater, Equal}
use Rattle.sheet.specs.declared.Fields.{Fields}
use Rattle.sheet.specs.declared.Record.{Record}
use Rattle.sheet.specs.Rows.{uses, is_unknown}
use Rattle.sheet.specs.Values.{Value, truth_of, numerator, over, value_at, row_val, Chosen}
use Rattle.sheet.specs.Acceptance.{meeting, larger, record_at, Sheet, accept}
use Rattle.sheet.specs.Steps.{extension}

-- x and y are added in w places: for each t, the sum's bit and the new carry
abbrev pub adding : (carry : Bool) → (w : ℕ) → (x y : ℤ) → List Bool
adding c zero x y = []
adding c (suc w) x y =
    xor_of (odd x) (odd y) ∷ xor_of (xor_of (odd x) (odd y)) c ∷ maj_of (odd x) (odd y) c ∷ adding (maj_of (odd x) (odd y) c) w (half x) (half y)

-- x where the lowest bit of y is 1
abbrev pub row_of : (x y : ℤ) → ℤ
row_of x y = if odd y then x otherwise pos 0

-- the rows of y's further bits, w places each and one fewer with every row, added to the running total
abbrev pub adding_rows : (w : ℕ) → (x y total : ℤ) → List Bool
adding_rows zero x y t = []
adding_rows (suc w) x y t = bits_of (suc w) (row_of x y) ++ adding false (suc w) (half t) (row_of x y) ++ adding_rows w x (half y) (half t +ℤ row_of x y)

abbrev pub multiplying : (w : ℕ) → (x y : ℤ) → List Bool
multiplying zero x y = []
multiplying (suc w) x y = bits_of (suc w) (row_of x y) ++ adding_rows w x (half y) (row_of x y)

abbrev pub expanding : (width factor : ℕ) → ℤ → List Bool
expanding w f x = if eqb f 1 then [] otherwise multiplying (w + fewest (pos f)) x (pos f)

-- x above y so far: g; at the sign y's bit stands in x's place
abbrev pub exceeding : (g : Bool) → (w : ℕ) → (x y : ℤ) → List Bool
exceeding g zero x y = []
exceeding g (suc zero) x y = xor_of (odd x) (odd y) ∷ mux_of (xor_of (odd x) (odd y)) (odd y) g ∷ []
exceeding g (suc (suc w)) x y =
    xor_of (odd x) (odd y) ∷ mux_of (xor_of (odd x) (odd y)) (odd x) g ∷ exceeding (mux_of (xor_of (odd x) (odd y)) (odd x) g) (suc w) (half x) (half y)

-- x equal to y so far: e
abbrev pub equalling : (e : Bool) → (w : ℕ) → (x y : ℤ) → List Bool
equalling e zero x y = []
equalling e (suc w) x y =
    xor_of (odd x) (odd y) ∷ (e && not (xor_of (odd x) (odd y))) ∷ equalling (e && not (xor_of (odd x) (odd y))) w (half x) (half y)

-- -1 - z, whose bits are those of z turned
abbrev pub turned : ℤ → ℤ
turned z = negsuc 0 -ℤ z

-- two numbers brought to one denominator, first a, then b
abbrev pub bringing : (a b : Record) → (u v : Value) → List Bool
bringing a b u v = expanding a.width (meeting a b / a.denominator) (numerator u) ++ expanding b.width (meeting a b / b.denominator) (numerator v)

-- a, b and c are the records of the rows x, y and z; k, l and m their values; v is the value chosen for an unknown
abbrev pub trace_by : Kind → (p : ℕ) → (a b c : Record) → (k l m : Value) → (v : ℤ) → List Bool
trace_by BooleanConstant p a b c k l m v = []
trace_by BooleanUnknown p a b c k l m v = eq_z v (pos 1) ∷ []
trace_by NaturalUnknown p a b c k l m v = bits_of p v
trace_by IntegerUnknown p a b c k l m v = bits_of p v
trace_by NumberConstant p a b c k l m v = []
trace_by Not p a b c k l m v = []
trace_by And p a b c k l m v = (truth_of k && truth_of l) ∷ []
trace_by Or p a b c k l m v = (not (truth_of k) && not (truth_of l)) ∷ []
trace_by Implies p a b c k l m v = (truth_of k && not (truth_of l)) ∷ []
trace_by Iff p a b c k l m v = xor_of (truth_of k) (truth_of l) ∷ []
trace_by Sum p a b c k l m v = bringing a b k l ++ adding false (larger a b + 1) (over (meeting a b) k) (over (meeting a b) l)
trace_by Difference p a b c k l m v = bringing a b k l ++ adding true (larger a b + 1) (over (meeting a b) k) (turned (over (meeting a b) l))
trace_by Product p a b c k l m v = multiplying (a.width + b.width) (numerator k) (numerator l)
trace_by Choice p a b c k l m v = bringing b c l m ++ bits_of (larger b c) (if truth_of k then over (meeting b c) l otherwise over (meeting b c) m)
trace_by Greater p a b c k l m v = bringing a b k l ++ exceeding false (larger a b) (over (meeting a b) k) (over (meeting a b) l)
trace_by Equal p a b c k l m v = bringing a b k l ++ equalling true (larger a b) (over (meeting a b) k) (over (meeting a b) l)

unfoldable pub trace_of : (records : List Record) (values : List Value) → Fields → ℤ → List Bool
trace_of rs vs f v =
    trace_by f.kind f.p (record_at rs f.x) (record_at rs f.y) (record_at rs f.z) (value_at vs f.x) (value_at vs f.y) (value_at vs f.z) v

-- of all rows, after earlier ones with these records and values; vs are the values chosen that are left
abbrev pub traces_from : (records : List Record) → (earlier : List Value) → List Fields → (vs : List ℤ) → List Bool
traces_from rs earlier [] vs = []
traces_from rs earlier (f ∷ rows) vs =
    trace_of rs earlier f (get_or vs 0 (pos 0)) ++ traces_from rs (earlier ++ row_val earlier f (get_or vs 0 (pos 0)) ∷ []) rows (drop (bit (is_unknown (uses f.kind))) vs)

-- of an accepted sheet: truth, then every row
unfoldable pub traces : List Record → List Fields → List ℤ → List Bool
traces rs rows vs = true ∷ traces_from rs [] rows vs

-- which is the paper's one assignment that extends chosen values
abbrev pub ExtensionTraced : Type 0
ExtensionTraced =
    (table : List ℕ) (sheet : Sheet) → accept table ≡ Ok sheet → (values : List ℤ) → Chosen sheet.rows values
    → extension sheet.rows values ≡ traces sheet.records sheet.rows values
