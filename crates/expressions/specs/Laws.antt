-- How an answer, and a run, goes on: one law for each way through the rules' commands.
-- An answer's number is 0 or its refusal's, so the number tells which case it is.
use Prim.Native.Nat.{ℕ, zero, suc}
use Rattle.std.specs.Prelude.{◌≡◌, refl, List, ◌++◌}
use Rattle.std.proofs.Common.{sym, ap, ◌∙◌, append_assoc, arith}
use Rattle.rules.specs.Machine.{State, Out, done, Command, Found, found, fault, after, and_then, noted, step_from, step, on_found, reading, next, both}
use Rattle.expressions.specs.Relations.{Run, Valued, Traced, Finding, Failing, Answers, finding, failing, Got, Gets, After, Holds, Stopped, Matches, goes_on, is_stopped, Does}

-- ---- answers

no_failing : {k m number place entries : ℕ} {t events trace : List ℕ} → number ≡ 0 → Failing k m t events trace number place entries → ⊥
no_failing z r = omega (arith, z, r.number_is, r.refusal)

-- What follows the events t after others follows both.
answers_after : {A : Type 0} (ok : A → Type 0) (t : List ℕ) {F : Found A} (events : List ℕ) {trace : List ℕ} {number place entries : ℕ}
    → Answers ok F (events ++ t) trace number place entries → Answers ok (after t F) events trace number place entries
unfolding after
answers_after ok t events (finding r) = finding (record { going = r.going; is = r.is; traced = rw append_assoc at r.traced })
answers_after ok t events (failing r) =
    failing (record { number_is = r.number_is; refusal = r.refusal; place_is = r.place_is; traced = rw append_assoc at r.traced })

module _ {A B : Type 0} {ok : A → Type 0} (ok' : B → Type 0) (f : A → Found B) where
  pub then_on : {F : Found A} {events trace : List ℕ} {number place entries : ℕ} → Answers ok F events trace number place entries → number ≡ 0
      → {trace' : List ℕ} {number' place' entries' : ℕ}
      → ((v : A) → ok v → (events₁ : List ℕ) → Traced trace entries events₁ → Answers ok' (f v) events₁ trace' number' place' entries')
      → Answers ok' (and_then F f) events trace' number' place' entries'
  unfolding and_then
  then_on (finding r) z h = answers_after ok' _ _ (h _ r.is _ r.traced)
  then_on (failing r) z h = absurd (no_failing z r)

  pub then_refused : {F : Found A} {events trace : List ℕ} {number place entries : ℕ} → Answers ok F events trace number place entries → (number ≡ 0 → ⊥)
      → Answers ok' (and_then F f) events trace number place entries
  unfolding and_then
  then_refused (finding r) z = absurd (z r.going)
  then_refused (failing r) z = failing r

-- A value that was found goes into what follows.
pub got_on : (f : ℕ → Found ℕ) {F : Found ℕ} {events trace trace' : List ℕ} (r r' : Valued) → Got F events trace r → r.number ≡ 0
    → Gets (f r.value) trace r.entries trace' r' → Got (and_then F f) events trace' r'
got_on f r r' g z h = then_on (λ v. r'.value ≡ v) f g z (λ v e events₁ t. rw e at (h events₁ t))

-- What follows the second of two answers follows the first.
after-after : {A : Type 0} (t u : List ℕ) (F : Found A) → after (t ++ u) F ≡ after t (after u F)
unfolding after
after-after t u (found v w) = rw append_assoc
after-after t u (fault k m w) = rw append_assoc

after_then : {A B : Type 0} (t : List ℕ) (F : Found A) (f : A → Found B) → and_then (after t F) f ≡ after t (and_then F f)
unfolding after and_then
after_then t (found v u) f = after-after t u (f v)
after_then t (fault k m u) f = refl

pub then_then : {A B C : Type 0} (F : Found A) (f : A → Found B) (g : B → Found C) → and_then (and_then F f) g ≡ and_then F (λ v. and_then (f v) g)
unfolding and_then
then_then (found v t) f g = after_then t (f v) g
then_then (fault k m t) f g = refl

-- ---- a run goes on after what was worked out

-- The state after an answer's events, for the run that goes on with it.
holds_after : (t : List ℕ) (c : State) {cells trace trace₁ : List ℕ} {run run₁ : Run} {ok : Type 0} {number place entries : ℕ}
    → Holds c cells trace run → Finding ok t c.events trace₁ number entries → After run number place entries run₁
    → Holds (noted t c) cells trace₁ run₁
unfolding noted
holds_after t c h r a = record {
  going = a.number_is ∙ r.going;
  memory_is = h.memory_is;
  left_is = h.left_is ∙ sym a.left_is;
  traced = rw a.entries_are r.traced;
}

stopped_after : (t : List ℕ) (c : State) {k m : ℕ} {cells trace trace₁ : List ℕ} {run run₁ : Run} {number place entries : ℕ}
    → Holds c cells trace run → Failing k m t c.events trace₁ number place entries → After run number place entries run₁
    → Stopped k m (noted t c) trace₁ run₁
unfolding noted
stopped_after t c h r a = record {
  number_is = a.number_is ∙ r.number_is;
  refusal = r.refusal;
  place_is = a.place_is ∙ r.place_is;
  left_is = h.left_is ∙ sym a.left_is;
  traced = rw a.entries_are r.traced;
}

module _ {A : Type 0} {ok : A → Type 0} (f : A → Command) (c : State) {cells trace trace₁ : List ℕ} {run run₁ : Run} (h : Holds c cells trace run) where
  found_on : {F : Found A} {number place entries : ℕ} → Answers ok F c.events trace₁ number place entries → number ≡ 0 → After run number place entries run₁
      → {cells' trace' : List ℕ} {run' : Run} → ((v : A) → ok v → Does (f v) cells trace₁ run₁ cells' trace' run')
      → Matches (on_found F f c) cells' trace' run'
  unfolding on_found
  found_on (finding r) z a go = go _ r.is _ (holds_after _ c h r a)
  found_on (failing r) z a go = absurd (no_failing z r)

  found_refused : {F : Found A} {number place entries : ℕ} → Answers ok F c.events trace₁ number place entries → (number ≡ 0 → ⊥) → After run number place entries run₁
      → {cells' : List ℕ} → Matches (on_found F f c) cells' trace₁ run₁
  unfolding on_found
  found_refused (finding r) z a = absurd (z r.going)
  found_refused (failing r) z a = is_stopped (stopped_after _ c h r a)

  -- Once a value, or what the arguments lend, is known.
  pub reading-on : (F : List ℕ → Found A) {number place entries : ℕ} → Answers ok (F cells) c.events trace₁ number place entries → number ≡ 0 → After run number place entries run₁
      → {cells' trace' : List ℕ} {run' : Run} → ((v : A) → ok v → Does (f v) cells trace₁ run₁ cells' trace' run')
      → Matches (reading F f c) cells' trace' run'
  unfolding reading
  reading-on F r z a go = rw (ap F h.memory_is) (found_on r z a go)

  pub reading-refused : (F : List ℕ → Found A) {number place entries : ℕ} → Answers ok (F cells) c.events trace₁ number place entries → (number ≡ 0 → ⊥)
      → After run number place entries run₁ → {cells' : List ℕ} → Matches (reading F f c) cells' trace₁ run₁
  unfolding reading
  reading-refused F r z a = rw (ap F h.memory_is) (found_refused r z a)

-- The same where it is a value, from what the code's function ensures of it.
module _ (F : List ℕ → Found ℕ) (f : ℕ → Command) {cells trace trace₁ : List ℕ} {run run₁ : Run} (v : Valued)
    (g : Gets (F cells) trace run.entries trace₁ v) (a : After run v.number v.place v.entries run₁) where
  pub value_on : v.number ≡ 0 → {cells' trace' : List ℕ} {run' : Run} → Does (f v.value) cells trace₁ run₁ cells' trace' run'
      → Does (reading F f) cells trace run cells' trace' run'
  value_on z go c h = reading-on f c h F (g c.events h.traced) z a (λ w e. rw e at go)

  pub value_refused : (v.number ≡ 0 → ⊥) → {cells' : List ℕ} → Does (reading F f) cells trace run cells' trace₁ run₁
  value_refused z c h = reading-refused f c h F (g c.events h.traced) z a

-- ---- a run goes on after what was done

module _ {cells₁ trace₁ : List ℕ} {run₁ : Run} where
  pub next-on : (g : Command) {o : Out} → Matches o cells₁ trace₁ run₁ → run₁.number ≡ 0 → {cells' trace' : List ℕ} {run' : Run}
      → Does g cells₁ trace₁ run₁ cells' trace' run' → Matches (next o g) cells' trace' run'
  unfolding next
  next-on g (goes_on h) z go = go _ h
  next-on g (is_stopped r) z go = absurd (omega (arith, z, r.number_is, r.refusal))

  pub next-refused : (g : Command) {o : Out} → Matches o cells₁ trace₁ run₁ → (run₁.number ≡ 0 → ⊥) → {cells' : List ℕ} → Matches (next o g) cells' trace₁ run₁
  unfolding next
  next-refused g (goes_on h) z = absurd (z h.going)
  next-refused g (is_stopped r) z = is_stopped r

module _ (f g : Command) {cells cells₁ trace trace₁ : List ℕ} {run run₁ : Run} (d : Does f cells trace run cells₁ trace₁ run₁) where
  pub both-on : run₁.number ≡ 0 → {cells' trace' : List ℕ} {run' : Run} → Does g cells₁ trace₁ run₁ cells' trace' run' → Does (both f g) cells trace run cells' trace' run'
  unfolding both
  both-on z go c h = next-on g (d c h) z go

  pub both-refused : (run₁.number ≡ 0 → ⊥) → {cells' : List ℕ} → Does (both f g) cells trace run cells' trace₁ run₁
  unfolding both
  both-refused z c h = next-refused g (d c h) z

-- ---- a step

module _ (n : ℕ) (f : Command) (c : State) {cells trace₁ : List ℕ} {run₁ : Run} where
  from_refused : (left : ℕ) → Matches (step_from left n done c) cells trace₁ run₁ → (run₁.number ≡ 0 → ⊥) → {cells' : List ℕ}
      → Matches (step_from left n f c) cells' trace₁ run₁
  unfolding step_from
  from_refused zero (is_stopped r) z = is_stopped r
  from_refused (suc left) (goes_on h) z = absurd (z h.going)

module _ (n : ℕ) (f : Command) {cells trace trace₁ : List ℕ} {run run₁ : Run} (d : Does (step n done) cells trace run cells trace₁ run₁) where
  pub step-refused : (run₁.number ≡ 0 → ⊥) → {cells' : List ℕ} → Does (step n f) cells trace run cells' trace₁ run₁
  unfolding step
  step-refused z c h = from_refused n f c c.left (d c h) z
