-- Chosen values, row by row: within their bits, as bits, read back from bits, and found again among the rows' values. Assumes nothing.
use mathlib.Core.Path.{◌≡◌, refl, sym, ◌∙◌, ap, ap₂}
use mathlib.Core.Bool.{Bool, true, false, ◌||◌, false≢true, and-eq-true_iff}
use mathlib.Core.List.{List, [], ◌∷◌, ◌++◌, append_assoc, append-nil}
use Prim.Native.Nat.{ℕ, zero, suc, ◌+◌, ◌≤◌}
use native.Mathlib.Omega.{arith}
use lib.ListN.{length, get_or, take, drop, length-append, length-drop, take-append-drop}
use lib.Seq.{length-take-le}
use lib.IntN.{ℤ, pos}
use Rattle.whole.specs.Tests.{if◌then◌otherwise◌, eq_z}
use Rattle.whole.specs.Bits.{bit, to_int}
use Rattle.whole.proofs.Tests.{eq_z_iff, bit_true}
use Rattle.whole.proofs.Bits.{to_int_below, fits_below, bits_of_length, bits_of_to_int, val, val_lt, bits_of_val}
use Rattle.sheet.specs.declared.Kind.{Kind}
use Rattle.sheet.specs.declared.Kind.TheVariants.{BooleanConstant, BooleanUnknown, NaturalUnknown, IntegerUnknown, NumberConstant, Not, And, Or, Implies, Iff, Sum, Difference, Product, Choice, Greater, Equal}
use Rattle.sheet.specs.declared.Fields.{Fields}
use Rattle.sheet.specs.Rows.{Uses, a_flag, a_boolean, a_natural, an_integer, a_constant, the_rows, uses, is_unknown}
use Rattle.sheet.specs.Values.{Value, numerator, value_by, row_val, values_from, unknowns, in_bits, each_in_bits, every, Within}
use Rattle.sheet.specs.Acceptance.{out_of_range}
use Rattle.sheet.specs.Steps.{of_unknowns, bits_by, unknown_bits}
use Rattle.sheet.proofs.Tested.{in_natural, in_integer}
use Rattle.sheet.proofs.Counted.{bits_asked}
use Rattle.sheet.proofs.Total.{all_asked}

abbrev pub first : List ℤ → ℤ
first vs = get_or vs 0 (pos 0)

-- the values that are left after a row
abbrev pub after : Fields → List ℤ → List ℤ
after f vs = drop (bit (is_unknown (uses f.kind))) vs

-- each value within its row's bits, the rows taking them in order
abbrev pub AllIn : List Fields → List ℤ → Type 0
AllIn [] vs = Unit {0}
AllIn (f ∷ rows) vs = (in_bits (uses f.kind) f.p (first vs) ≡ true) × AllIn rows (after f vs)

-- as many values as unknowns
abbrev pub Enough : List Fields → List ℤ → Type 0
Enough rows vs = length vs ≡ length (unknowns rows)

-- a row that asks for none has no bits to leave
pub no_bits : (u : Uses) (p : ℕ) (v : ℤ) → is_unknown u ≡ false → in_bits u p v ≡ true
no_bits a_flag p v e = refl
no_bits a_boolean p v e = absurd (false≢true (sym e))
no_bits a_natural p v e = absurd (false≢true (sym e))
no_bits an_integer p v e = absurd (false≢true (sym e))
no_bits a_constant p v e = refl
no_bits (the_rows sorts) p v e = refl

all_in : (rows : List Fields) (vs : List ℤ) → Enough rows vs → every (each_in_bits (unknowns rows) vs) ≡ true → AllIn rows vs
all_in [] vs n e = tt
all_in (f ∷ rows) vs n e = by (is_unknown (uses f.kind)) refl vs n e (λ ws. all_in rows ws)
  where
    u : Uses
    u = uses f.kind

    by : (b : Bool) → is_unknown u ≡ b → (vs : List ℤ) → length vs ≡ length (if b then f ∷ unknowns rows otherwise unknowns rows)
        → every (each_in_bits (if b then f ∷ unknowns rows otherwise unknowns rows) vs) ≡ true → ((ws : List ℤ) → Enough rows ws → every (each_in_bits (unknowns rows) ws) ≡ true → AllIn rows ws)
        → (in_bits u f.p (first vs) ≡ true) × AllIn rows (drop (bit b) vs)
    by true k [] n e rest = absurd (omega arith)
    by true k (v ∷ vs) n e rest = let (here, others) = (and-eq-true_iff (in_bits u f.p v) (every (each_in_bits (unknowns rows) vs))).0 e in (here, rest vs (omega arith) others)
    by false k vs n e rest = (no_bits u f.p (first vs) k, rest vs n e)

pub within_all : (rows : List Fields) (vs : List ℤ) → Within rows vs → AllIn rows vs
within_all rows vs w = all_in rows vs w.number w.inside

each_in : (rows : List Fields) (vs : List ℤ) → Enough rows vs → AllIn rows vs → every (each_in_bits (unknowns rows) vs) ≡ true
each_in [] vs n a = refl
each_in (f ∷ rows) vs n a = by (is_unknown (uses f.kind)) vs n a.0 a.1 (λ ws. each_in rows ws)
  where
    by : (b : Bool) (vs : List ℤ) → length vs ≡ length (if b then f ∷ unknowns rows otherwise unknowns rows) → in_bits (uses f.kind) f.p (first vs) ≡ true → AllIn rows (drop (bit b) vs)
        → ((ws : List ℤ) → Enough rows ws → AllIn rows ws → every (each_in_bits (unknowns rows) ws) ≡ true) → every (each_in_bits (if b then f ∷ unknowns rows otherwise unknowns rows) vs) ≡ true
    by true [] n e a rest = refl
    by true (v ∷ vs) n e a rest = (and-eq-true_iff (in_bits (uses f.kind) f.p v) (every (each_in_bits (unknowns rows) vs))).1 (e, rest vs (omega arith) a)
    by false vs n e a rest = rest vs n a

pub all_within : (rows : List Fields) (vs : List ℤ) → Enough rows vs → AllIn rows vs → Within rows vs
all_within rows vs n a = record { number = n; inside = each_in rows vs n a }

-- ---- values as bits, and bits as values

bits_many : (u : Uses) (p : ℕ) (v : ℤ) → length (bits_by u p v) ≡ bits_asked u p
bits_many a_flag p v = refl
bits_many a_boolean p v = refl
bits_many a_natural p v = bits_of_length p v
bits_many an_integer p v = bits_of_length p v
bits_many a_constant p v = refl
bits_many (the_rows sorts) p v = refl

pub all_bits_many : (rows : List Fields) (vs : List ℤ) → length (unknown_bits rows vs) ≡ all_asked rows
all_bits_many [] vs = refl
all_bits_many (f ∷ rows) vs =
    let u = uses f.kind in
    length-append (bits_by u f.p (first vs)) (unknown_bits rows (after f vs)) ∙ ap₂ ◌+◌ (bits_many u f.p (first vs)) (all_bits_many rows (after f vs))

-- the value that an unknown's bits, the first of l, stand for
abbrev read_bits : Uses → (p : ℕ) → List Bool → ℤ
read_bits a_flag p l = pos 0
read_bits a_boolean p l = pos (bit (get_or l 0 false))
read_bits a_natural p l = pos (val (take p l))
read_bits an_integer p l = to_int (take p l)
read_bits a_constant p l = pos 0
read_bits (the_rows sorts) p l = pos 0

-- the values of all unknowns, from the bits of all
abbrev pub read_all : List Fields → List Bool → List ℤ
read_all [] l = []
read_all (f ∷ rows) l =
    let rest = read_all rows (drop (bits_asked (uses f.kind) f.p) l) in
    if is_unknown (uses f.kind) then read_bits (uses f.kind) f.p l ∷ rest otherwise rest

is_bit : (b : Bool) → (eq_z (pos (bit b)) (pos 0) || eq_z (pos (bit b)) (pos 1)) ≡ true
is_bit true = refl
is_bit false = refl

-- a row's bits are those of the value read from them, which is within its declared bits
read_row_lem : (u : Uses) (p x z : ℕ) (l : List Bool) → out_of_range u p x z ≡ false → bits_asked u p ≤ length l → is_unknown u ≡ true
    → (in_bits u p (read_bits u p l) ≡ true) × (bits_by u p (read_bits u p l) ≡ take (bits_asked u p) l)
read_row_lem a_flag p x z l o h e = absurd (false≢true e)
read_row_lem a_boolean p x z [] o h e = absurd (omega arith)
read_row_lem a_boolean p x z (b ∷ l) o h e = (is_bit b, ap (λ (c : Bool). c ∷ []) (bit_true b))
read_row_lem a_natural p x z l o h e =
    let k : length (take p l) ≡ p = length-take-le p l h in
    (in_natural p (val (take p l)) (rw k at (val_lt (take p l))), rw k at (bits_of_val (take p l)))
read_row_lem an_integer zero x z l o h e = absurd (false≢true (sym o))
read_row_lem an_integer (suc p) x z l o h e =
    let k : length (take (suc p) l) ≡ suc p = length-take-le (suc p) l h in
    (in_integer (suc p) (to_int (take (suc p) l)) (fits_below (to_int_below p (take (suc p) l) k)), bits_of_to_int p (take (suc p) l) k)
read_row_lem a_constant p x z l o h e = absurd (false≢true e)
read_row_lem (the_rows sorts) p x z l o h e = absurd (false≢true e)

no_asked : (u : Uses) (p : ℕ) (v : ℤ) → is_unknown u ≡ false → (bits_by u p v ≡ []) × (bits_asked u p ≡ 0)
no_asked a_flag p v e = (refl, refl)
no_asked a_boolean p v e = absurd (false≢true (sym e))
no_asked a_natural p v e = absurd (false≢true (sym e))
no_asked an_integer p v e = absurd (false≢true (sym e))
no_asked a_constant p v e = (refl, refl)
no_asked (the_rows sorts) p v e = (refl, refl)

abbrev pub Ranged : List Fields → Type 0
Ranged [] = Unit {0}
Ranged (f ∷ rows) = (out_of_range (uses f.kind) f.p f.x f.z ≡ false) × Ranged rows

-- values that bits are the bits of
pub record FromBits (rows : List Fields) (vs : List ℤ) (l : List Bool) : Type 0 where
  pub number : Enough rows vs
  pub inside : AllIn rows vs
  pub bits : unknown_bits rows vs ≡ l

-- any bits are the bits of the values read from them
pub read_all_lem : (rows : List Fields) (l : List Bool) → Ranged rows → length l ≡ all_asked rows → FromBits rows (read_all rows l) l
read_all_lem [] [] o h = record { number = refl; inside = tt; bits = refl }
read_all_lem [] (b ∷ l) o h = absurd (omega arith)
read_all_lem (f ∷ rows) l o h = by (is_unknown u) refl (read_all_lem rows (drop (bits_asked u f.p) l) o.1 (length-drop (bits_asked u f.p) l ∙ omega arith))
  where
    u : Uses
    u = uses f.kind

    ws : List ℤ
    ws = read_all rows (drop (bits_asked u f.p) l)

    by : (b : Bool) → is_unknown u ≡ b → FromBits rows ws (drop (bits_asked u f.p) l) → FromBits (f ∷ rows) (if b then read_bits u f.p l ∷ ws otherwise ws) l
    by true e c =
        let (here, bits) = read_row_lem u f.p f.x f.z l o.0 (omega arith) e in
        record {
          number = rw e (omega (arith, c.number));
          inside = (here, rw e c.inside);
          bits = rw e (ap₂ ◌++◌ bits c.bits ∙ take-append-drop (bits_asked u f.p) l);
        }
    by false e c =
        let (none, zero-asked) = no_asked u f.p (first ws) e in
        record {
          number = rw e c.number;
          inside = (no_bits u f.p (first ws) e, rw e c.inside);
          bits = rw e (rw none (c.bits ∙ ap (λ (n : ℕ). drop n l) zero-asked));
        }

-- ---- the values of the rows

-- those of the rows that come after earlier ones
abbrev pub new_values : List Value → List Fields → List ℤ → List Value
new_values earlier [] vs = []
new_values earlier (f ∷ rows) vs = row_val earlier f (first vs) ∷ new_values (earlier ++ row_val earlier f (first vs) ∷ []) rows (after f vs)

pub values_new : (rows : List Fields) (earlier : List Value) (vs : List ℤ) → values_from earlier rows vs ≡ earlier ++ new_values earlier rows vs
values_new [] earlier vs = sym (append-nil earlier)
values_new (f ∷ rows) earlier vs =
    let v = row_val earlier f (first vs) in
    values_new rows (earlier ++ v ∷ []) (after f vs) ∙ append_assoc earlier (v ∷ []) (new_values (earlier ++ v ∷ []) rows (after f vs))

of_bit : (v : ℤ) → (eq_z v (pos 0) || eq_z v (pos 1)) ≡ true → pos (bit (eq_z v (pos 1))) ≡ v
of_bit v = by (eq_z v (pos 0)) (eq_z v (pos 1)) refl refl
  where
    by : (a b : Bool) → eq_z v (pos 0) ≡ a → eq_z v (pos 1) ≡ b → (a || b) ≡ true → pos (bit b) ≡ v
    by a true ea eb e = sym ((eq_z_iff v (pos 1)).0 eb)
    by true false ea eb e = sym ((eq_z_iff v (pos 0)).0 ea)
    by false false ea eb e = absurd (false≢true e)

-- an unknown's value has the numerator chosen
own_numerator : (k : Kind) (p x y z : ℕ) (a b c : Value) (v : ℤ) → is_unknown (uses k) ≡ true → in_bits (uses k) p v ≡ true → numerator (value_by k p x y z a b c v) ≡ v
own_numerator BooleanUnknown p x y z a b c v u i = of_bit v i
own_numerator NaturalUnknown p x y z a b c v u i = refl
own_numerator IntegerUnknown p x y z a b c v u i = refl
own_numerator BooleanConstant p x y z a b c v u i = absurd (false≢true u)
own_numerator NumberConstant p x y z a b c v u i = absurd (false≢true u)
own_numerator Not p x y z a b c v u i = absurd (false≢true u)
own_numerator And p x y z a b c v u i = absurd (false≢true u)
own_numerator Or p x y z a b c v u i = absurd (false≢true u)
own_numerator Implies p x y z a b c v u i = absurd (false≢true u)
own_numerator Iff p x y z a b c v u i = absurd (false≢true u)
own_numerator Sum p x y z a b c v u i = absurd (false≢true u)
own_numerator Difference p x y z a b c v u i = absurd (false≢true u)
own_numerator Product p x y z a b c v u i = absurd (false≢true u)
own_numerator Choice p x y z a b c v u i = absurd (false≢true u)
own_numerator Greater p x y z a b c v u i = absurd (false≢true u)
own_numerator Equal p x y z a b c v u i = absurd (false≢true u)

-- the unknowns' numerators among the rows' values are the values chosen
pub chosen_found : (rows : List Fields) (earlier : List Value) (vs : List ℤ) → Enough rows vs → AllIn rows vs → of_unknowns rows (new_values earlier rows vs) ≡ vs
unfolding row_val
chosen_found [] earlier [] n a = refl
chosen_found [] earlier (v ∷ vs) n a = absurd (omega arith)
chosen_found (f ∷ rows) earlier vs n a = by (is_unknown (uses f.kind)) refl vs n a.0 a.1 (λ e ws. chosen_found rows e ws)
  where
    Rest : Type 0
    Rest = (e : List Value) (ws : List ℤ) → Enough rows ws → AllIn rows ws → of_unknowns rows (new_values e rows ws) ≡ ws

    by : (b : Bool) → is_unknown (uses f.kind) ≡ b → (vs : List ℤ) → length vs ≡ length (if b then f ∷ unknowns rows otherwise unknowns rows) → in_bits (uses f.kind) f.p (first vs) ≡ true
        → AllIn rows (drop (bit b) vs) → Rest
        → (let v = row_val earlier f (first vs) in let rest = of_unknowns rows (new_values (earlier ++ v ∷ []) rows (drop (bit b) vs)) in if b then numerator v ∷ rest otherwise rest) ≡ vs
    by true u [] n b a rest = absurd (omega arith)
    by true u (v ∷ vs) n b a rest = ap₂ ◌∷◌ (own_numerator f.kind f.p f.x f.y f.z _ _ _ v u b) (rest (earlier ++ row_val earlier f v ∷ []) vs (omega arith) a)
    by false u vs n b a rest = rest (earlier ++ row_val earlier f (first vs) ∷ []) vs n a
