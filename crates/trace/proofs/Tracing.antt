-- What the gates of a circuit hold, in order of making, and what its result means, said without a variable's number. Assumes nothing.
use mathlib.Core.Path.{◌≡◌, refl, sym, ◌∙◌, ap, ap₂, subst}
use mathlib.Core.Bool.{Bool, false}
use mathlib.Core.List.{List, [], ◌∷◌, ◌++◌, append_assoc, append-nil}
use Prim.Native.Nat.{ℕ, suc, ◌+◌}
use native.Mathlib.Omega.{arith}
use lib.ListN.{length, get_or, drop}
use lib.Seq.{drop-cons, drop-length}
use Rattle.circuit.specs.Literals.{Lit, plus, Assignment, lit_true}
use Rattle.circuit.specs.Gates.{Gate, gate_val}
use Rattle.circuit.specs.Circuits.{Circuit, ret, new, ◌>>=◌, gates, asks}
use Rattle.circuit.proofs.Assignments.{Holds, own, frees, own_rest}
use Rattle.circuit.proofs.Meaning.{Wp, Sem, own_value}

-- under s the gates hold bs, and Q holds of the result; l are the free bits still to come, m what the circuit leaves of them
module _ {A : Type 0} (s : Assignment) where
  abbrev pub Held : (l : List Bool) → Circuit A → (m bs : List Bool) → (Q : A → Type 0) → Type 0
  Held l (ret a) m bs Q = (l ≡ m) × (bs ≡ []) × Q a
  Held l (new g k) m bs Q =
      (rest : List Bool) × (bs ≡ gate_val s (get_or l 0 false) g ∷ rest)
      × ((x : Lit) → lit_true s x ≡ gate_val s (get_or l 0 false) g → Held (drop (asks g) l) (k x) m rest Q)

  pub record Tracing (l : List Bool) (c : Circuit A) (m bs : List Bool) (Q : A → Type 0) : Type 0 where
    pub held : Held l c m bs Q

module _ {A : Type 0} {s : Assignment} where
  pub trace_ret : {l : List Bool} {a : A} {Q : A → Type 0} → Q a → Tracing s l (ret a) l [] Q
  trace_ret q = record { held = (refl, refl, q) }

  -- a gate whose value is b
  pub trace_new : {l m bs : List Bool} {g : Gate} {k : Lit → Circuit A} {Q : A → Type 0} {b : Bool} → gate_val s (get_or l 0 false) g ≡ b
      → ((x : Lit) → lit_true s x ≡ b → Tracing s (drop (asks g) l) (k x) m bs Q) → Tracing s l (new g k) m (b ∷ bs) Q
  trace_new {bs = bs} e f = record { held = (bs, ap (λ c. c ∷ bs) (sym e), λ x h. (f x (h ∙ e)).held) }

module _ {A B : Type 0} {s : Assignment} where
  pub trace_bind : {l m r bs cs : List Bool} {c : Circuit A} {f : A → Circuit B} {P : A → Type 0} {Q : B → Type 0}
      → Tracing s l c m bs P → ((a : A) → P a → Tracing s m (f a) r cs Q) → Tracing s l (c >>= f) r (bs ++ cs) Q
  trace_bind {l} {m} {r} {bs} {cs} {c} {f} {P} {Q} p q = record { held = go l bs c p.held }
    where
      go : (l bs : List Bool) (c : Circuit A) → Held s l c m bs P → Held s l (c >>= f) r (bs ++ cs) Q
      go l bs (ret a) w = rw (w.0, w.1) (q a w.2).held
      go l bs (new g k) w = (w.0 ++ cs, ap (λ b. b ++ cs) w.1, λ x e. go (drop (asks g) l) w.0 (k x) (w.2 x e))

  -- the second makes nothing
  pub trace_then : {l m r bs : List Bool} {c : Circuit A} {f : A → Circuit B} {P : A → Type 0} {Q : B → Type 0}
      → Tracing s l c m bs P → ((a : A) → P a → Tracing s m (f a) r [] Q) → Tracing s l (c >>= f) r bs Q
  trace_then {l} {m} {r} {bs} {c} {f} {P} {Q} p q = subst (λ (b : List Bool). Tracing s l (c >>= f) r b Q) (append-nil bs) (trace_bind p q)

module _ {A : Type 0} {s : Assignment} where
  pub trace_map : {l m bs : List Bool} {c : Circuit A} {P Q : A → Type 0} → Tracing s l c m bs P → ((a : A) → P a → Q a) → Tracing s l c m bs Q
  trace_map {l} {m} {bs} {c} {P} {Q} p f = record { held = go l bs c p.held }
    where
      go : (l bs : List Bool) (c : Circuit A) → Held s l c m bs P → Held s l c m bs Q
      go l bs (ret a) w = (w.0, w.1, f a w.2)
      go l bs (new g k) w = (w.0, w.1, λ x e. go (drop (asks g) l) w.0 (k x) (w.2 x e))

  -- what a circuit means, beside what it holds
  pub trace_sem : {l m bs : List Bool} {c : Circuit A} {P Q : A → Type 0} → Tracing s l c m bs P → Sem s l c m Q → Tracing s l c m bs (λ a. P a × Q a)
  trace_sem {l} {m} {bs} {c} {P} {Q} p q = record { held = go l bs c p.held q.wp }
    where
      go : (l bs : List Bool) (c : Circuit A) → Held s l c m bs P → Wp s l c m Q → Held s l c m bs (λ a. P a × Q a)
      go l bs (ret a) w v = (w.0, w.1, (w.2, v.1))
      go l bs (new g k) w v = (w.0, w.1, λ x e. go (drop (asks g) l) w.0 (k x) (w.2 x e) (v x e))

  -- an assignment that ends with a circuit's gates ends with what they hold
  pub trace_sound : {c : Circuit A} {m bs : List Bool} {Q : A → Type 0} (n : ℕ) (r : List Bool) → Tracing s (frees s n (gates n c) ++ r) c m bs Q
      → Holds s n (gates n c) → length s ≡ n + length (gates n c) → drop n s ≡ bs
  trace_sound {c} {m} {bs} {Q} n r p h e = go c n bs p.held h e
    where
      go : (c : Circuit A) (n : ℕ) (bs : List Bool) → Held s (frees s n (gates n c) ++ r) c m bs Q → Holds s n (gates n c)
          → length s ≡ n + length (gates n c) → drop n s ≡ bs
      go (ret a) n bs w h e = let all : n ≡ length s = omega arith in ap (λ i. drop i s) all ∙ drop-length s ∙ sym w.1
      go (new g k) n bs w h e =
          let b : Bool = get_or s n false in
          let l : List Bool = frees s (suc n) (gates (suc n) (k (plus n))) in
          let w₁ : Held s (own g b ++ (l ++ r)) (new g k) m bs Q = rw append_assoc at w in
          let is : b ≡ gate_val s (get_or (own g b ++ (l ++ r)) 0 false) g = h.0 ∙ own_value s g b (l ++ r) in
          let ih : drop (suc n) s ≡ w₁.0 = go (k (plus n)) (suc n) w₁.0 (rw (own_rest g b (l ++ r)) at (w₁.2 (plus n) is)) h.1 (omega arith) in
          drop-cons s n false (omega arith) ∙ ap₂ ◌∷◌ is ih ∙ sym w₁.1
