-- Both demands at a real cipher: TEA of 32 rounds, over a secret key of four words and a secret text of two.
-- What they ask is met by computation: the image is accepted, looks nothing up unsafely, has secret cells only, and finishes whatever key and text are.
use Rattle.std.specs.Prelude.{ℕ, ◌+◌, ◌*◌, ◌^◌, ◌≤◌, ◌<◌, List, [], ◌∷◌, ◌++◌, ◌≡◌, ◌⊎◌, length, get_or, replicate, T}
use Rattle.std.proofs.Math.Path.{refl}
use Rattle.std.proofs.Common.{sym, ◌∙◌, ap, subst, arith, lit≤, pow_pos}
use Rattle.std.proofs.lemmas.List.{get_or-replicate}
use Rattle.rules.specs.Words.{Direction, forward, inverse, opposite}
use Rattle.rules.specs.Image.{missing, header_of, parts_of}
use Rattle.rules.specs.Form.{accepted}
use Rattle.rules.specs.Check.{verdict, without_unsafe}
use Rattle.rules.specs.Run.{Given, Outcome, room_before, sizes, secrecies, execution, outcome_of, run}
use Rattle.rules.proofs.Opened.{definitions}
use Rattle.rules.proofs.Assemble.{bytes, words, joined, procedure, variable_record, node, plain, constants, assembled}
use Rattle.laws.specs.Growth.{Begins}
use Rattle.laws.specs.Entry.{StoreFits, store_accepted, WellFormed, entry_accepted, run-entered}
use Rattle.laws.specs.Reversible.{reversible}
use Rattle.laws.specs.Secret.{SamePublic, Alike, secret}
use Rattle.laws.specs.Corollaries.{enough}

-- ---- the image: its 866 bytes are those of samples/tea.image

-- { secret u32 v0, v1;
--   v0 <-> text[0]; v1 <-> text[1];
--   for (sum = 0; 32 * delta) {
--     sum += delta;
--     v0 += ((v1 << 4) + key[0]) ^ (v1 + sum) ^ ((v1 >> 5) + key[1]);
--     v1 += ((v0 << 4) + key[2]) ^ (v0 + sum) ^ ((v0 >> 5) + key[3]);
--   }
--   v0 <-> text[0]; v1 <-> text[1]; }

-- The variables by number.
abbrev key : ℕ
key = 0

abbrev text : ℕ
text = 1

abbrev v0 : ℕ
v0 = 2

abbrev v1 : ℕ
v1 = 3

abbrev counter : ℕ
counter = 4

-- v <-> text[i], from node n on
fetched : ℕ → ℕ → ℕ → ℕ → List (List ℕ)
fetched n v i next = node 3 0 (n + 1) (n + 2) 0 0 next ∷ plain 21 v 0 0 0 ∷ plain 22 text (n + 3) 0 0 ∷ plain 20 i 0 0 0 ∷ []

binary : ℕ → ℕ → ℕ → List ℕ
binary operator a b = node 25 operator a b 0 0 missing

-- ((v << 4) + key[k]) ^ (v + sum) ^ ((v >> 5) + key[l]), from node n on; k and l are constants' numbers
mixed : ℕ → ℕ → ℕ → ℕ → List (List ℕ)
mixed n v k l =
    binary 8 (n + 1) (n + 11)
    ∷ binary 8 (n + 2) (n + 8)
    ∷ binary 1 (n + 3) (n + 6) ∷ binary 15 (n + 4) (n + 5) ∷ plain 21 v 0 0 0 ∷ plain 20 4 0 0 0 ∷ plain 22 key (n + 7) 0 0 ∷ plain 20 k 0 0 0
    ∷ binary 1 (n + 9) (n + 10) ∷ plain 21 v 0 0 0 ∷ plain 21 counter 0 0 0
    ∷ binary 1 (n + 12) (n + 15) ∷ binary 16 (n + 13) (n + 14) ∷ plain 21 v 0 0 0 ∷ plain 20 5 0 0 0 ∷ plain 22 key (n + 16) 0 0 ∷ plain 20 l 0 0 0
    ∷ []

-- The numbers that the text names: 4 and 5 stand at 4 and 5, delta is 2654435769 (9E3779B9).
numbers : List ℕ
numbers = 0 ∷ 1 ∷ 32 * 2654435769 ∷ 2654435769 ∷ 4 ∷ 5 ∷ 2 ∷ 3 ∷ []

-- Each chain of nodes is one statement.
nodes : List (List ℕ)
nodes =
    (plain 9 v0 2 1 0 ∷ [])
    ++ (fetched 1 v0 0 5
    ++ (fetched 5 v1 1 9
    ++ ((node 6 0 counter 10 11 12 54 ∷ plain 20 0 0 0 0 ∷ plain 20 2 0 0 0 ∷ plain 9 0 0 13 0 ∷ [])
    ++ ((node 2 1 14 15 0 0 16 ∷ plain 21 counter 0 0 0 ∷ plain 20 3 0 0 0 ∷ [])
    ++ ((node 2 1 17 18 0 0 35 ∷ plain 21 v0 0 0 0 ∷ mixed 18 v1 0 1)
    ++ ((node 2 1 36 37 0 0 missing ∷ plain 21 v1 0 0 0 ∷ mixed 37 v0 6 7)
    ++ (fetched 54 v0 0 58
    ++ fetched 58 v1 1 missing)))))))

unfoldable pub tea : List ℕ
unfolding bytes words joined constants assembled fetched binary mixed numbers nodes
tea =
    assembled (procedure 0 5 2 0 ∷ [])
    (variable_record 1 1 32 0 ∷ variable_record 1 1 32 0 ∷ variable_record 0 1 32 0 ∷ variable_record 0 1 32 0 ∷ variable_record 3 0 64 0 ∷ [])
    nodes numbers

-- ---- what the demands ask

pub tea-accepted : verdict tea ≡ accepted
unfolding definitions tea
tea-accepted = refl

number_accepted : (verdict tea).number ≡ 0
number_accepted = ap (λ v. v.number) tea-accepted

pub tea-safe : T (without_unsafe tea)
unfolding definitions tea
tea-safe = tt

-- The key's four words, then the text's two.
abbrev pub lengths : List ℕ
lengths = 4 ∷ 2 ∷ []

abbrev pub tea_on : Direction → ℕ → ℕ → ℕ → List ℕ → Given
tea_on d works budget room store = record { image = tea; direction = d; lengths = lengths; store = store; works = works; budget = budget; room = room }

abbrev pub tea_run : Direction → ℕ → ℕ → ℕ → List ℕ → Outcome
tea_run d works budget room store = run (tea_on d works budget room store)

pub record KeyAndText (store : List ℕ) : Type 0 where
  pub six : length store ≡ 6
  pub word : (i : ℕ) → i < 6 → get_or store i 0 < 2 ^ 32

-- Every cell of the store is a secret u32.
u32_cell : (i : ℕ) → i < 6 → get_or (sizes (header_of tea) (parts_of tea) lengths) i 0 ≡ 32
u32_cell i l = ap (λ ns. get_or ns i 0) sizes-are ∙ get_or-replicate {A = ℕ} 6 i 32 0 l
  where
    sizes-are : sizes (header_of tea) (parts_of tea) lengths ≡ replicate 6 32
    sizes-are = unfold definitions tea in refl

secret-cell : (i : ℕ) → i < 6 → get_or (secrecies (header_of tea) (parts_of tea) lengths) i 0 ≡ 1
secret-cell i l = ap (λ ns. get_or ns i 0) secrecies-are ∙ get_or-replicate {A = ℕ} 6 i 1 0 l
  where
    secrecies-are : secrecies (header_of tea) (parts_of tea) lengths ≡ replicate 6 1
    secrecies-are = unfold definitions tea in refl

fits : (store : List ℕ) → KeyAndText store → StoreFits (header_of tea) (parts_of tea) lengths store
unfolding definitions tea
fits store k = record {
  count = refl;
  fit = tt;
  whole = sym k.six;
  cells = λ i l. let m : i < 6 = omega (arith, k.six) in subst (λ z. get_or store i 0 < 2 ^ z) (sym (u32_cell i m)) (k.word i m);
}

well_formed : (d : Direction) (works budget room : ℕ) (store : List ℕ) → KeyAndText store → WellFormed (tea_on d works budget room store)
well_formed d works budget room store k = store_accepted (header_of tea) (parts_of tea) lengths store (fits store k)

nothing_public : (d : Direction) (works budget room : ℕ) (store other : List ℕ) → KeyAndText store → KeyAndText other → SamePublic (tea_on d works budget room store) store other
nothing_public d works budget room store other k l = record {
  long = k.six ∙ sym l.six;
  cell = λ i m e. absurd (let s = secret-cell i (omega (arith, k.six)) in omega arith);
}

-- ---- demand 3: whatever keys and texts, in either direction

pub tea-secret : (d : Direction) (works budget room : ℕ) (store other : List ℕ) → KeyAndText store → KeyAndText other
    → (((tea_run d works budget room store).number ≡ 27 → ⊥) → ((tea_run d works budget room other).number ≡ 27 → ⊥)
    → Alike (tea_on d works budget room store) (tea_run d works budget room store) (tea_run d works budget room other))
    × (((tea_run d works budget room store).number ≡ 27) ⊎ ((tea_run d works budget room other).number ≡ 27)
    → ((tea_run d works budget room store).steps ≤ (tea_run d works budget room other).steps → Begins (tea_run d works budget room store).events (tea_run d works budget room other).events)
    × ((tea_run d works budget room other).steps ≤ (tea_run d works budget room store).steps → Begins (tea_run d works budget room other).events (tea_run d works budget room store).events))
tea-secret d works budget room store other k l =
    secret (tea_on d works budget room store) (tea_on d works budget room other)
    (record { image = refl; direction = refl; lengths = refl; works = refl; budget = refl; room = refl }) number_accepted tea-safe
    (well_formed d works budget room store k) (well_formed d works budget room other l) (nothing_public d works budget room store other k l)

-- ---- demand 2: a run that finishes is taken back

pub tea-reversible : (d : Direction) (works budget room works' budget' room' : ℕ) (store : List ℕ) → (tea_run d works budget room store).number ≡ 0
    → 8192 ≤ works' → (tea_run d works budget room store).steps ≤ budget'
    → ((tea_run (opposite d) works' budget' room' (tea_run d works budget room store).store).number ≡ 0)
    × ((tea_run (opposite d) works' budget' room' (tea_run d works budget room store).store).steps ≡ (tea_run d works budget room store).steps)
    × ((tea_run (opposite d) works' budget' room' (tea_run d works budget room store).store).store ≡ store)
tea-reversible d works budget room works' budget' room' store e w b =
    reversible (tea_on d works budget room store) (tea_on (opposite d) works' budget' room' (tea_run d works budget room store).store) e refl refl refl refl w b

-- ---- it finishes, whatever key and text are

abbrev pub Finished : Outcome → Type 0
Finished o = (o.number ≡ 0) × (o.steps ≡ 166)

-- The run computes with key and text unknown. No 27: the last two swaps bring back to v0 and v1 the zeros that the first two put into the text.
abbrev executed : Direction → ℕ → ℕ → List ℕ → Outcome
executed d works room store = outcome_of (tea_on d works 166 room store) (execution (header_of tea) (parts_of tea) (tea_on d works 166 room store))

executed-forward : (works room k0 k1 k2 k3 t0 t1 : ℕ) → Finished (executed forward works room (k0 ∷ k1 ∷ k2 ∷ k3 ∷ t0 ∷ t1 ∷ []))
unfolding definitions tea
executed-forward works room k0 k1 k2 k3 t0 t1 = (refl, refl)

executed-inverse : (works room k0 k1 k2 k3 t0 t1 : ℕ) → Finished (executed inverse works room (k0 ∷ k1 ∷ k2 ∷ k3 ∷ t0 ∷ t1 ∷ []))
unfolding definitions tea
executed-inverse works room k0 k1 k2 k3 t0 t1 = (refl, refl)

executed-finishes : (d : Direction) (works room : ℕ) (store : List ℕ) → length store ≡ 6 → Finished (executed d works room store)
executed-finishes forward works room (k0 ∷ k1 ∷ k2 ∷ k3 ∷ t0 ∷ t1 ∷ []) e = executed-forward works room k0 k1 k2 k3 t0 t1
executed-finishes inverse works room (k0 ∷ k1 ∷ k2 ∷ k3 ∷ t0 ∷ t1 ∷ []) e = executed-inverse works room k0 k1 k2 k3 t0 t1
executed-finishes d works room [] e = absurd (omega arith)
executed-finishes d works room (_ ∷ []) e = absurd (omega arith)
executed-finishes d works room (_ ∷ _ ∷ []) e = absurd (omega arith)
executed-finishes d works room (_ ∷ _ ∷ _ ∷ []) e = absurd (omega arith)
executed-finishes d works room (_ ∷ _ ∷ _ ∷ _ ∷ []) e = absurd (omega arith)
executed-finishes d works room (_ ∷ _ ∷ _ ∷ _ ∷ _ ∷ []) e = absurd (omega arith)
executed-finishes d works room (_ ∷ _ ∷ _ ∷ _ ∷ _ ∷ _ ∷ _ ∷ _) e = absurd (omega arith)

-- v0, v1 and the counter
three-locals : room_before (header_of tea) (parts_of tea) (header_of tea).variables ≡ 3
unfolding definitions tea
three-locals = refl

run-executed : (d : Direction) (works room : ℕ) (store : List ℕ) → KeyAndText store → 8192 ≤ works → tea_run d works 166 room store ≡ executed d works room store
run-executed d works room store k w = run-entered (tea_on d works 166 room store) (entry_accepted (tea_on d works 166 room store)
    (record { checked = number_accepted; works = w; store = fits store k; room = rw (k.six, three-locals) (lit≤ tt) }))

-- So with every budget that holds its 166 steps.
pub tea-finishes : (d : Direction) (works budget room : ℕ) (store : List ℕ) → KeyAndText store → 8192 ≤ works → 166 ≤ budget → Finished (tea_run d works budget room store)
tea-finishes d works budget room store k w b =
    let f : Finished (tea_run d works 166 room store) = rw (run-executed d works room store k w) (executed-finishes d works room store k.six) in
    let r = enough (tea_on d works 166 room store) (tea_on d works budget room store) f.0 refl refl refl refl w (omega arith) in
    (r.0, r.1 ∙ f.1)

-- ---- both together

abbrev pub zero_store : List ℕ
zero_store = 0 ∷ 0 ∷ 0 ∷ 0 ∷ 0 ∷ 0 ∷ []

zero_words : KeyAndText zero_store
zero_words = record { six = refl; word = λ i l. rw (get_or-replicate {A = ℕ} 6 i 0 0 l) (pow_pos 32) }

-- The published vector: key and text all 0 give 41EA3A0A 94BAA940.
abbrev pub sealed_zeros : List ℕ
sealed_zeros = 0 ∷ 0 ∷ 0 ∷ 0 ∷ 1105869322 ∷ 2495260992 ∷ []

pub tea-published : (tea_run forward 8192 166 0 zero_store).store ≡ sealed_zeros
tea-published = ap (λ o. o.store) (run-executed forward 8192 0 zero_store zero_words (lit≤ tt)) ∙ computed
  where
    computed : (executed forward 8192 0 zero_store).store ≡ sealed_zeros
    computed = unfold definitions tea in refl

pub tea-published_finishes : Finished (tea_run forward 8192 166 0 zero_store)
tea-published_finishes = tea-finishes forward 8192 166 0 zero_store zero_words (lit≤ tt) (lit≤ tt)

never_27 : (n : ℕ) → n ≡ 0 → n ≡ 27 → ⊥
never_27 n e f = omega arith

-- For every key and text the run takes 166 steps and leaves the trace of the published one.
pub tea-tells_nothing : (d : Direction) (works budget room : ℕ) (store : List ℕ) → KeyAndText store → 8192 ≤ works → 166 ≤ budget
    → ((tea_run d works budget room store).number ≡ 0) × ((tea_run d works budget room store).steps ≡ 166) × ((tea_run d works budget room store).events ≡ (tea_run d works budget room zero_store).events)
tea-tells_nothing d works budget room store k w b =
    let f = tea-finishes d works budget room store k w b in
    let z = tea-finishes d works budget room zero_store zero_words w b in
    (f.0, f.1, ((tea-secret d works budget room store zero_store k zero_words).0 (never_27 _ f.0) (never_27 _ z.0)).events)

-- Every text sealed with a key is opened by it, word for word; and what is opened first can be sealed again.
pub tea-opens : (d : Direction) (works budget room : ℕ) (store : List ℕ) → KeyAndText store → 8192 ≤ works → 166 ≤ budget
    → (tea_run (opposite d) works budget room (tea_run d works budget room store).store).store ≡ store
tea-opens d works budget room store k w b =
    let f = tea-finishes d works budget room store k w b in
    (tea-reversible d works budget room works budget room store f.0 w (omega arith)).2

-- So the published cipher text opens: not by another computation, but by demand 2.
pub tea-published_opens : (tea_run inverse 8192 166 0 sealed_zeros).store ≡ zero_store
unfolding opposite
tea-published_opens = subst (λ σ. (tea_run inverse 8192 166 0 σ).store ≡ zero_store) tea-published (tea-opens forward 8192 166 0 zero_store zero_words (lit≤ tt) (lit≤ tt))
