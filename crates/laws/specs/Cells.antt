-- Where the cells are: a procedure's variables live at its arguments or at home, and homes and store are numbered without overlap.
-- A cell of a slot is a number i with `In slot i`; whatever is so of all variables is so of every cell by the variable that it belongs to.
use Prim.Native.Nat.{ℕ, zero, suc, ◌+◌, ◌-◌, ◌≤◌, ◌<◌}
use mathlib.Core.List.{List, [], ◌∷◌}
use Rattle.std.specs.Prelude.{◌≡◌, Bool, not, ◌||◌, ◌⊎◌, get_or, replicate}
use Rattle.std.proofs.Math.Path.{refl, ap}
use Rattle.std.proofs.Common.{◌∙◌, inl, inr, lt→ltb}
use Rattle.std.proofs.Math.Bool.{true, false, cond}
use Rattle.std.proofs.Math.Logic.{dite}
use native.Mathlib.Omega.{arith}
use Rattle.std.proofs.Math.Decide.{ℕ_discrete, dec_lt, dec_le}
use Rattle.std.proofs.Math.ListN.{length, length-append, get_or-replicate, get_or-append}
use Rattle.std.proofs.lemmas.List.{length-replicate}
use Rattle.std.proofs.Math.Seq.{get_or-append-add}
use Rattle.std.proofs.Math.Dec.{T, leb, ltb, eqb→eq, ltb→lt, nltb→le, leb→le, le→leb, not_T}
use Rattle.rules.specs.Image.{Header, Parts, Procedure, Variable, is_array, is_constant, is_secret}
use Rattle.rules.specs.Form.{search, is_parameter}
use Rattle.rules.specs.Walk.{type_of}
use Rattle.rules.specs.Machine.{Slot, no_slot, Env}
use Rattle.rules.specs.Run.{room_of, room_before, home, store_slots, env_of, last_of, sum, per_cell}
use Rattle.laws.specs.Verdicts.{is_true, is_false, search_is, search-before}
use Rattle.laws.specs.Records.{Typed}

abbrev pub In : Slot → ℕ → Type 0
In x i = (x.base ≤ i) × (i < x.base + x.cells)

pub in_decided : (x : Slot) (i : ℕ) → In x i ⊎ (In x i → ⊥)
in_decided x i = dite (dec_le x.base i) (λ l. dite (dec_lt i (x.base + x.cells)) (λ m. inl (l, m)) (λ k. inr (λ h. k h.1))) (λ k. inr (λ h. k h.0))

-- A cell of a slot of a list: the slot is in the list, for the other slots have no cells.
pub in_list : (xs : List Slot) (j i : ℕ) → In (get_or xs j no_slot) i → j < length xs
in_list [] j i h = absurd (omega arith)
in_list (x ∷ xs) zero i h = omega arith
in_list (x ∷ xs) (suc j) i h = let k = in_list xs j i h in omega arith

-- ---- a procedure's names

module _ (homes : Env) (q : Procedure) (xs : List Slot) (y : ℕ) where
  pub env_parameter : q.first ≤ y → y - q.first < length xs → env_of homes q xs y ≡ get_or xs (y - q.first) no_slot
  unfolding env_of
  env_parameter l m = rw (
    is_false (ltb y q.first) (not_T (ltb y q.first) (λ t. let k = ltb→lt y q.first t in omega arith)),
    is_true (ltb (y - q.first) (length xs)) (lt→ltb (y - q.first) (length xs) m),
  )

  pub env_local : q.first + length xs ≤ y → y < q.first + q.count → env_of homes q xs y ≡ homes y
  unfolding env_of
  env_local l m = rw (
    is_false (ltb y q.first) (not_T (ltb y q.first) (λ t. let k = ltb→lt y q.first t in omega arith)),
    is_false (ltb (y - q.first) (length xs)) (not_T (ltb (y - q.first) (length xs)) (λ t. let k = ltb→lt (y - q.first) (length xs) t in omega arith)),
    is_true (ltb y (q.first + q.count)) (lt→ltb y (q.first + q.count) m),
  )

  -- Every name is a parameter, a local or has no cells.
  pub env_each : (P : Slot → Type 0) → P no_slot → (q.first ≤ y → y - q.first < length xs → P (get_or xs (y - q.first) no_slot))
      → (q.first + length xs ≤ y → y < q.first + q.count → P (homes y)) → P (env_of homes q xs y)
  unfolding env_of
  env_each P none param local = first (ltb y q.first) refl
    where
      third : (b : Bool) → ltb y (q.first + q.count) ≡ b → q.first + length xs ≤ y → P (cond b (homes y) no_slot)
      third true e l = local l (ltb→lt y (q.first + q.count) (rw e tt))
      third false e l = none

      second : (b : Bool) → ltb (y - q.first) (length xs) ≡ b → q.first ≤ y → P (cond b (get_or xs (y - q.first) no_slot) (cond (ltb y (q.first + q.count)) (homes y) no_slot))
      second true e l = param l (ltb→lt (y - q.first) (length xs) (rw e tt))
      second false e l = let m = nltb→le (y - q.first) (length xs) (rw e tt) in third (ltb y (q.first + q.count)) refl (omega arith)

      first : (b : Bool) → ltb y q.first ≡ b
          → P (cond b no_slot (cond (ltb (y - q.first) (length xs)) (get_or xs (y - q.first) no_slot) (cond (ltb y (q.first + q.count)) (homes y) no_slot)))
      first true e = none
      first false e = second (ltb (y - q.first) (length xs)) refl (nltb→le y q.first (rw e tt))

  -- Where a name's cells are: an argument's, or a local's.
  pub env_cases : (i : ℕ) → In (env_of homes q xs y) i
      → ((q.first ≤ y) × (y - q.first < length xs) × In (get_or xs (y - q.first) no_slot) i) ⊎ ((q.first + length xs ≤ y) × (y < q.first + q.count) × In (homes y) i)
  env_cases i = env_each
      (λ x. In x i → ((q.first ≤ y) × (y - q.first < length xs) × In (get_or xs (y - q.first) no_slot) i) ⊎ ((q.first + length xs ≤ y) × (y < q.first + q.count) × In (homes y) i))
      (λ h. absurd (omega arith)) (λ l m h. inl (l, m, h)) (λ l m h. inr (l, m, h))

-- ---- homes

module _ (h : Header) (s : Parts) where
  -- Room is given in variable order.
  pub room_grows : (x y : ℕ) → x < y → room_before h s x + room_of h s x ≤ room_before h s y
  unfolding room_before
  room_grows x zero l = absurd (omega arith)
  room_grows x (suc y) l = dite (ℕ_discrete x y) (λ e. rw e (omega arith)) (λ ne. let g = room_grows x y (omega arith) in omega arith)

  -- Two names with a common cell at home are one.
  pub homes-apart : (stored x y i : ℕ) → In (home h s stored x) i → In (home h s stored y) i → x ≡ y
  unfolding home
  homes-apart stored x y i a b = dite (dec_lt x y) (λ l. let g = room_grows x y l in absurd (omega arith))
      (λ k. dite (dec_lt y x) (λ l. let g = room_grows y x l in absurd (omega arith)) (λ m. omega arith))

  pub homes-inside : (stored x i : ℕ) → x < h.variables → In (home h s stored x) i → (stored ≤ i) × (i < stored + room_before h s h.variables)
  unfolding home
  homes-inside stored x i l a = let g = room_grows x h.variables l in omega arith

  -- Whose the i-th cell of all locals is.
  unfoldable pub holder : ℕ → ℕ
  holder i = search (λ x. leb (room_before h s (suc x)) i) 0 h.variables

  pub holder-is : (stored x i : ℕ) → x < h.variables → In (home h s stored x) i → holder (i - stored) ≡ x
  unfolding holder home room_before
  holder-is stored x i l a = search_is (λ x. leb (room_before h s (suc x)) (i - stored)) 0 h.variables x (omega arith) (omega arith)
      (λ k _ m. let g = room_grows k x m in le→leb (room_before h s k + room_of h s k) (i - stored) (omega arith))
      (not_T (leb (room_before h s x + room_of h s x) (i - stored)) (λ t. let m = leb→le (room_before h s x + room_of h s x) (i - stored) t in omega arith))

  pub holder-below : (i : ℕ) → i < room_before h s h.variables → holder i < h.variables
  unfolding holder room_before
  holder-below i l = below h.variables refl l
    where
      below : (v : ℕ) → h.variables ≡ v → i < room_before h s v → search (λ x. leb (room_before h s (suc x)) i) 0 h.variables < h.variables
      below zero e m = absurd (omega arith)
      below (suc v) e m = dite (dec_lt (search (λ x. leb (room_before h s (suc x)) i) 0 h.variables) h.variables) (λ k. k)
          (λ k. let r = leb→le (room_before h s (suc v)) i (search-before (λ x. leb (room_before h s (suc x)) i) 0 h.variables v (omega arith) (omega arith)) in absurd (omega arith))

  -- A local scalar or counter has one cell, an array its length.
  pub room_one : (x : ℕ) → T (not (is_parameter h s.procedures x)) → T (not (is_constant (type_of s x))) → T (not (is_array (type_of s x))) → room_of h s x ≡ 1
  unfolding room_of
  room_one x p c a = rw (is_false (is_parameter h s.procedures x) p, is_false (is_constant (type_of s x)) c, is_false (is_array (type_of s x)) a)

  pub room_array : (x : ℕ) → T (not (is_parameter h s.procedures x)) → T (is_array (type_of s x)) → room_of h s x ≡ (type_of s x).extra
  unfolding room_of
  room_array x p a =
      let k : (type_of s x).kind ≡ 1 = eqb→eq (type_of s x).kind 1 a in
      rw (is_false (is_parameter h s.procedures x) p, is_false (is_constant (type_of s x)) (not_T (is_constant (type_of s x)) (λ t. let e = eqb→eq (type_of s x).kind 2 t in omega arith)), is_true (is_array (type_of s x)) a)

  pub room_short : (x : ℕ) → Typed h s x → room_of h s x ≤ 4096
  unfolding room_of
  room_short x t = go (is_parameter h s.procedures x) (is_constant (type_of s x)) (is_array (type_of s x)) t.length
    where
      go : (p c a : Bool) → (T (not p) → T a → (1 ≤ (type_of s x).extra) × ((type_of s x).extra ≤ 4096)) → cond (p || c) 0 (cond a (type_of s x).extra 1) ≤ 4096
      go true c a f = omega arith
      go false true a f = omega arith
      go false false true f = (f tt tt).1
      go false false false f = omega arith

-- ---- the store

module _ (s : Parts) where
  pub store_count : (y i : ℕ) (ns : List ℕ) → length (store_slots s y i ns) ≡ length ns
  unfolding store_slots
  store_count y i [] = refl
  store_count y i (n ∷ ns) = ap suc (store_count (suc y) (i + n) ns)

  pub store_inside : (y i : ℕ) (ns : List ℕ) (j c : ℕ) → In (get_or (store_slots s y i ns) j no_slot) c → (i ≤ c) × (c < i + sum ns)
  unfolding store_slots sum
  store_inside y i [] j c a = absurd (omega arith)
  store_inside y i (n ∷ ns) zero c a = omega arith
  store_inside y i (n ∷ ns) (suc j) c a = let g = store_inside (suc y) (i + n) ns j c a in omega arith

  -- Two parameters with a common cell are one.
  pub store_apart : (y i : ℕ) (ns : List ℕ) (j k c : ℕ) → In (get_or (store_slots s y i ns) j no_slot) c → In (get_or (store_slots s y i ns) k no_slot) c → j ≡ k
  unfolding store_slots
  store_apart y i [] j k c a b = absurd (omega arith)
  store_apart y i (n ∷ ns) zero zero c a b = refl
  store_apart y i (n ∷ ns) zero (suc k) c a b = let g = store_inside (suc y) (i + n) ns k c b in absurd (omega arith)
  store_apart y i (n ∷ ns) (suc j) zero c a b = let g = store_inside (suc y) (i + n) ns j c a in absurd (omega arith)
  store_apart y i (n ∷ ns) (suc j) (suc k) c a b = ap suc (store_apart (suc y) (i + n) ns j k c a b)

  -- The slot of a parameter: its length, and its variable's size and secrecy.
  pub store_cells : (y i : ℕ) (ns : List ℕ) (j : ℕ) → j < length ns → (get_or (store_slots s y i ns) j no_slot).cells ≡ get_or ns j 0
  unfolding store_slots
  store_cells y i [] j l = absurd (omega arith)
  store_cells y i (n ∷ ns) zero l = refl
  store_cells y i (n ∷ ns) (suc j) l = store_cells (suc y) (i + n) ns j (omega arith)

  pub store_width : (y i : ℕ) (ns : List ℕ) (j : ℕ) → j < length ns → (get_or (store_slots s y i ns) j no_slot).width ≡ (type_of s (y + j)).size
  unfolding store_slots
  store_width y i [] j l = absurd (omega arith)
  store_width y i (n ∷ ns) zero l = let e : y + 0 ≡ y = omega arith in rw e
  store_width y i (n ∷ ns) (suc j) l = let e : y + suc j ≡ suc y + j = omega arith in rw e (store_width (suc y) (i + n) ns j (omega arith))

  pub store_hidden : (y i : ℕ) (ns : List ℕ) (j : ℕ) → j < length ns → (get_or (store_slots s y i ns) j no_slot).hidden ≡ is_secret (type_of s (y + j))
  unfolding store_slots
  store_hidden y i [] j l = absurd (omega arith)
  store_hidden y i (n ∷ ns) zero l = let e : y + 0 ≡ y = omega arith in rw e
  store_hidden y i (n ∷ ns) (suc j) l = let e : y + suc j ≡ suc y + j = omega arith in rw e (store_hidden (suc y) (i + n) ns j (omega arith))

  -- What is said per cell is said of the cell's parameter.
  pub per_cell-length : (f : Variable → ℕ) (y : ℕ) (ns : List ℕ) → length (per_cell f s y ns) ≡ sum ns
  unfolding per_cell sum
  per_cell-length f y [] = refl
  per_cell-length f y (n ∷ ns) = length-append (replicate n (f (type_of s y))) (per_cell f s (suc y) ns) ∙ rw (length-replicate n (f (type_of s y)), per_cell-length f (suc y) ns)

  per_cell-here : (f : Variable → ℕ) (y n : ℕ) (ns : List ℕ) (c : ℕ) → c < n → get_or (per_cell f s y (n ∷ ns)) c 0 ≡ f (type_of s y)
  unfolding per_cell
  per_cell-here f y n ns c l =
      get_or-append (replicate n (f (type_of s y))) (per_cell f s (suc y) ns) 0 c (rw (length-replicate n (f (type_of s y))) l) ∙ get_or-replicate n c (f (type_of s y)) 0 l

  per_cell-there : (f : Variable → ℕ) (y n : ℕ) (ns : List ℕ) (c : ℕ) → get_or (per_cell f s y (n ∷ ns)) (n + c) 0 ≡ get_or (per_cell f s (suc y) ns) c 0
  unfolding per_cell
  per_cell-there f y n ns c = let g = get_or-append-add (replicate n (f (type_of s y))) (per_cell f s (suc y) ns) c 0 in rw (length-replicate n (f (type_of s y))) at g

  pub per_cell-at : (f : Variable → ℕ) (y i : ℕ) (ns : List ℕ) (j c : ℕ) → In (get_or (store_slots s y i ns) j no_slot) c → get_or (per_cell f s y ns) (c - i) 0 ≡ f (type_of s (y + j))
  unfolding store_slots
  per_cell-at f y i [] j c a = absurd (omega arith)
  per_cell-at f y i (n ∷ ns) zero c a = let e : y + 0 ≡ y = omega arith in rw e (per_cell-here f y n ns (c - i) (omega arith))
  per_cell-at f y i (n ∷ ns) (suc j) c a =
      let g = store_inside (suc y) (i + n) ns j c a in
      let e : y + suc j ≡ suc y + j = omega arith in
      let k : c - i ≡ n + (c - (i + n)) = omega arith in
      rw (e, k) (per_cell-there f y n ns (c - (i + n)) ∙ per_cell-at f (suc y) (i + n) ns j c a)

  pub per_cell-each : (P : ℕ → Type 0) (f : Variable → ℕ) (y : ℕ) (ns : List ℕ) → ((j : ℕ) → j < length ns → P (f (type_of s (y + j))))
      → (c : ℕ) → c < sum ns → P (get_or (per_cell f s y ns) c 0)
  unfolding sum
  per_cell-each P f y [] all c l = absurd (omega arith)
  per_cell-each P f y (n ∷ ns) all c l = dite (dec_lt c n)
      (λ m. rw (per_cell-here f y n ns c m) (let e : y + 0 ≡ y = omega arith in rw e at (all 0 (omega arith))))
      (λ k. let e : c ≡ n + (c - n) = omega arith in
      rw (e, per_cell-there f y n ns (c - n)) (per_cell-each P f (suc y) ns (λ j m. let q : y + suc j ≡ suc y + j = omega arith in rw q at (all (suc j) (omega arith))) (c - n) (omega arith)))

-- ---- all cells

-- A number for each cell, by its variable: the store's cells by the last procedure's parameters, the others by the local that lives there.
unfoldable pub of_cell : (Variable → ℕ) → Header → Parts → List ℕ → ℕ → ℕ
of_cell f h s lengths i = cond (ltb i (sum lengths)) (get_or (per_cell f s (last_of h s).first lengths) i 0) (f (type_of s (holder h s (i - sum lengths))))

module _ (f : Variable → ℕ) (h : Header) (s : Parts) (lengths : List ℕ) where
  pub of_cell-stored : (i : ℕ) → i < sum lengths → of_cell f h s lengths i ≡ get_or (per_cell f s (last_of h s).first lengths) i 0
  unfolding of_cell
  of_cell-stored i l = rw (is_true (ltb i (sum lengths)) (lt→ltb i (sum lengths) l))

  pub of_cell-store : (j i : ℕ) → In (get_or (store_slots s (last_of h s).first 0 lengths) j no_slot) i → of_cell f h s lengths i ≡ f (type_of s ((last_of h s).first + j))
  of_cell-store j i a = of_cell-stored i (let g = store_inside s (last_of h s).first 0 lengths j i a in omega arith) ∙ (let e : i - 0 ≡ i = omega arith in rw e at (per_cell-at s f (last_of h s).first 0 lengths j i a))

  pub of_cell-home : (x i : ℕ) → x < h.variables → In (home h s (sum lengths) x) i → of_cell f h s lengths i ≡ f (type_of s x)
  unfolding of_cell
  of_cell-home x i l a =
      let k = homes-inside h s (sum lengths) x i l a in
      rw (is_false (ltb i (sum lengths)) (not_T (ltb i (sum lengths)) (λ t. let m = ltb→lt i (sum lengths) t in omega arith)), holder-is h s (sum lengths) x i l a)

  -- What is so of every variable is so of every cell.
  pub of_cell-each : (P : ℕ → Type 0) → ((x : ℕ) → x < h.variables → P (f (type_of s x))) → (last_of h s).first + length lengths ≤ h.variables
      → (i : ℕ) → i < sum lengths + room_before h s h.variables → P (of_cell f h s lengths i)
  unfolding of_cell
  of_cell-each P all l i m = by (ltb i (sum lengths)) refl
    where
      by : (b : Bool) → ltb i (sum lengths) ≡ b → P (cond b (get_or (per_cell f s (last_of h s).first lengths) i 0) (f (type_of s (holder h s (i - sum lengths)))))
      by true e = per_cell-each s P f (last_of h s).first lengths (λ j k. all ((last_of h s).first + j) (omega arith)) i (ltb→lt i (sum lengths) (rw e tt))
      by false e = let k = nltb→le i (sum lengths) (rw e tt) in all (holder h s (i - sum lengths)) (holder-below h s (i - sum lengths) (omega arith))
