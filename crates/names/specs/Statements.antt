-- What a statement changes, by the case of its node.
use Rattle.std.specs.Prelude.{ℕ, ◌<◌, ◌≡◌, refl, List, [], ◌∷◌, ◌++◌, Bool, ◌⊎◌, Ok, Err}
use Rattle.std.proofs.Common.{sym, ap, ◌∙◌, inl, inr, ⊎_elim, arith}
use Rattle.std.proofs.lemmas.Bool.{false≢true}
use Rattle.rules.specs.Image.{missing, Header, Parts, node_of, is_statement, is_lvalue}
use Rattle.rules.specs.Tree.{reading_at, roots, changed}
use Rattle.records.specs.Decode.{Decoded, decoded_at}
use Rattle.records.specs.Fits.{Child}
use Rattle.records.specs.Cases.{Refers, Targeted, root-place}
use Rattle.records.specs.declared.LValue.{LValue}
use Rattle.records.specs.declared.Node.{Node}
use Rattle.records.specs.declared.Node.TheVariants.{Empty, Update, Swap, ConditionalSwap, If, For, Call, Uncall, Block, Constant, Value, Size, Binary, Not, Argument}
use Rattle.names.specs.declared.marks.Names.{Names}
use Rattle.names.specs.Marks.{most, Touches}
use Rattle.names.specs.Sound.{Standing, Known, Chain, KnownChain, AsArguments, means, refers, never_refused, standing_child, statement-classed}
use Rattle.names.specs.Chains.{Naming, KnownNaming, root_of, root-small, no_statements, first_statement_lem}

module _ {class : ℕ → Bool} {nodes : List ℕ} {h : Header} {s : Parts} {n : ℕ} (st : Standing class nodes h s n) where
  -- A target of the node, and a chain that it begins.
  pub target_naming : {l : LValue} → Targeted h s n l → Naming nodes h s l
  target_naming t = record { sound = st.sound; own = st.own; names = t.1 }

  pub begun : {class' : ℕ → Bool} {m : ℕ} → (m ≡ missing) ⊎ Child h s.nodes n class' m → Chain class' nodes h s m
  begun o = record { sound = st.sound; own = st.own; here = ⊎_elim (λ e. inl e) (λ c. inr (standing_child st c)) o }

module _ {class : ℕ → Bool} {nodes : List ℕ} {n : ℕ} (k : Known class nodes n) {x : Node} (d : decoded_at nodes n ≡ Ok x) where
  pub known_target : {l : LValue} → ((h : Header) (s : Parts) → Refers h s n x → Targeted h s n l) → KnownNaming nodes l
  known_target which =
      record { header = k.header; parts = k.parts; naming = target_naming k.standing (which k.header k.parts (refers k.standing d)) }

  module _ {class' : ℕ → Bool} {m : ℕ} (which : (h : Header) (s : Parts) → Refers h s n x → (m ≡ missing) ⊎ Child h s.nodes n class' m) where
    pub known_begun : KnownChain class' nodes m
    known_begun = record { header = k.header; parts = k.parts; chain = begun k.standing (which k.header k.parts (refers k.standing d)) }

    pub begun-behind : (n < m) × (m < 65536)
    begun-behind =
        let f = k.standing.sound.few in let i = k.standing.inside in
        ⊎_elim (λ e. (omega arith, omega arith)) (λ c. (c.behind, (let j = c.inside in omega arith))) (which k.header k.parts (refers k.standing d))

-- The targets of a statement, by its case.
module _ {class : ℕ → Bool} {nodes : List ℕ} {h : Header} {s : Parts} {n : ℕ} (st : Standing class nodes h s n) where
  pub update_target : {o v : ℕ} {l : LValue} → decoded_at nodes n ≡ Ok (Update l v o) → Naming nodes h s l
  update_target {l = l} d = target_naming st {l = l} (refers st d).0

  pub swap_left : {l m : LValue} → decoded_at nodes n ≡ Ok (Swap l m) → Naming nodes h s l
  swap_left {l} d = target_naming st {l = l} (refers st d).0

  pub swap_right : {l m : LValue} → decoded_at nodes n ≡ Ok (Swap l m) → Naming nodes h s m
  swap_right {l} {m} d = target_naming st {l = m} (refers st d).1

  pub conditional_left : {e : ℕ} {l m : LValue} → decoded_at nodes n ≡ Ok (ConditionalSwap l m e) → Naming nodes h s l
  conditional_left {e} {l} d = target_naming st {l = l} (refers st d).1.0

  pub conditional_right : {e : ℕ} {l m : LValue} → decoded_at nodes n ≡ Ok (ConditionalSwap l m e) → Naming nodes h s m
  conditional_right {e} {l} {m} d = target_naming st {l = m} (refers st d).1.1

module _ {nodes : List ℕ} {h : Header} {s : Parts} {n : ℕ} (st : Standing is_statement nodes h s n) where
  -- The empty statement changes nothing.
  pub changed-nothing : (d : Decoded) → d ≡ decoded_at nodes n → ((l : LValue) (v o : ℕ) → d ≡ Ok (Update l v o) → ⊥) → ((l m : LValue) → d ≡ Ok (Swap l m) → ⊥)
      → ((l m : LValue) (c : ℕ) → d ≡ Ok (ConditionalSwap l m c) → ⊥) → ((c y z : ℕ) → d ≡ Ok (If c y z) → ⊥) → ((v a b c : ℕ) → d ≡ Ok (For v a b c) → ⊥)
      → ((p a : ℕ) → d ≡ Ok (Call p a) → ⊥) → ((p a : ℕ) → d ≡ Ok (Uncall p a) → ⊥) → ((v c a : ℕ) → d ≡ Ok (Block v c a) → ⊥) → changed (reading_at h s n).as_stmt ≡ []
  unfolding changed
  changed-nothing (Ok Empty) e nu ns nc ni nf na nv nb = rw (means st (sym e))
  changed-nothing (Ok (Update l v o)) e nu ns nc ni nf na nv nb = absurd (nu l v o refl)
  changed-nothing (Ok (Swap l m)) e nu ns nc ni nf na nv nb = absurd (ns l m refl)
  changed-nothing (Ok (ConditionalSwap l m c)) e nu ns nc ni nf na nv nb = absurd (nc l m c refl)
  changed-nothing (Ok (If c y z)) e nu ns nc ni nf na nv nb = absurd (ni c y z refl)
  changed-nothing (Ok (For x a b c)) e nu ns nc ni nf na nv nb = absurd (nf x a b c refl)
  changed-nothing (Ok (Call p a)) e nu ns nc ni nf na nv nb = absurd (na p a refl)
  changed-nothing (Ok (Uncall p a)) e nu ns nc ni nf na nv nb = absurd (nv p a refl)
  changed-nothing (Ok (Block x c a)) e nu ns nc ni nf na nv nb = absurd (nb x c a refl)
  changed-nothing (Ok (Constant k)) e nu ns nc ni nf na nv nb = absurd (false≢true (statement-classed (sym e) st))
  changed-nothing (Ok (Value l)) e nu ns nc ni nf na nv nb = absurd (false≢true (statement-classed (sym e) st))
  changed-nothing (Ok (Size x)) e nu ns nc ni nf na nv nb = absurd (false≢true (statement-classed (sym e) st))
  changed-nothing (Ok (Binary o a b)) e nu ns nc ni nf na nv nb = absurd (false≢true (statement-classed (sym e) st))
  changed-nothing (Ok (Not a)) e nu ns nc ni nf na nv nb = absurd (false≢true (statement-classed (sym e) st))
  changed-nothing (Ok (Argument l m)) e nu ns nc ni nf na nv nb = absurd (false≢true (statement-classed (sym e) st))
  changed-nothing (Err r) e nu ns nc ni nf na nv nb = absurd (never_refused st (sym e))

  pub changed-update : {o v : ℕ} {l : LValue} → decoded_at nodes n ≡ Ok (Update l v o) → changed (reading_at h s n).as_stmt ≡ root_of l ∷ []
  unfolding changed
  changed-update {l = l} d = rw (means st d, root-place h s l)

  pub changed-if : {e y z : ℕ} → decoded_at nodes n ≡ Ok (If e y z)
      → changed (reading_at h s n).as_stmt ≡ changed (reading_at h s y).as_stmt ++ changed (reading_at h s z).as_stmt
  unfolding changed
  changed-if d = rw (means st d)

  pub changed-for : {x a b c : ℕ} → decoded_at nodes n ≡ Ok (For x a b c) → changed (reading_at h s n).as_stmt ≡ changed (reading_at h s c).as_stmt
  unfolding changed
  changed-for d = rw (means st d)

  pub changed_block : {x c a : ℕ} → decoded_at nodes n ≡ Ok (Block x c a) → changed (reading_at h s n).as_stmt ≡ changed (reading_at h s a).as_stmts
  unfolding changed
  changed_block d = rw (means st d)

  pub changed-list : {m : ℕ} → m ≡ (node_of nodes n).next
      → changed (reading_at h s n).as_stmts ≡ changed (reading_at h s n).as_stmt ++ changed (reading_at h s m).as_stmts
  unfolding changed
  changed-list e = rw (first_statement_lem st e)

pub changed-none : {nodes : List ℕ} {h : Header} {s : Parts} {n : ℕ} → Chain is_statement nodes h s n → n ≡ missing → changed (reading_at h s n).as_stmts ≡ []
unfolding changed
changed-none k e = rw (no_statements k e)

-- ---- cases that are matched together

-- A call or an uncall, with these arguments.
abbrev pub Calls : Node → ℕ → Type 0
Calls x a = ((p : ℕ) × (x ≡ Call p a)) ⊎ ((p : ℕ) × (x ≡ Uncall p a))

-- A swap or a conditional swap, of these targets.
abbrev pub Swaps : Node → LValue → LValue → Type 0
Swaps x l m = (x ≡ Swap l m) ⊎ ((e : ℕ) × (x ≡ ConditionalSwap l m e))

pub known_call : {nodes : List ℕ} {n a : ℕ} {x : Node} → Known is_statement nodes n → decoded_at nodes n ≡ Ok x → Calls x a → KnownChain is_lvalue nodes a
known_call k d o = ⊎_elim (λ c. known_begun k (d ∙ ap Ok c.1) (λ h s r. r.1)) (λ c. known_begun k (d ∙ ap Ok c.1) (λ h s r. r.1)) o

module _ {nodes : List ℕ} {h : Header} {s : Parts} {n : ℕ} (st : Standing is_statement nodes h s n) where
  changed-forward : {p a : ℕ} → decoded_at nodes n ≡ Ok (Call p a) → changed (reading_at h s n).as_stmt ≡ roots (reading_at h s a).as_arguments
  unfolding changed
  changed-forward d = rw (means st d)

  changed-back : {p a : ℕ} → decoded_at nodes n ≡ Ok (Uncall p a) → changed (reading_at h s n).as_stmt ≡ roots (reading_at h s a).as_arguments
  unfolding changed
  changed-back d = rw (means st d)

  changed-plain : {l m : LValue} → decoded_at nodes n ≡ Ok (Swap l m) → changed (reading_at h s n).as_stmt ≡ root_of l ∷ root_of m ∷ []
  unfolding changed
  changed-plain {l} {m} d = rw (means st d, root-place h s l, root-place h s m)

  changed-conditional : {e : ℕ} {l m : LValue} → decoded_at nodes n ≡ Ok (ConditionalSwap l m e) → changed (reading_at h s n).as_stmt ≡ root_of l ∷ root_of m ∷ []
  unfolding changed
  changed-conditional {e} {l} {m} d = rw (means st d, root-place h s l, root-place h s m)

  module _ {x : Node} (d : decoded_at nodes n ≡ Ok x) where
    pub call_arguments : {a : ℕ} → Calls x a → Chain is_lvalue nodes h s a
    call_arguments {a} o =
        ⊎_elim
        (λ (c : (p : ℕ) × (x ≡ Call p a)). begun st (refers st {x = Call c.0 a} (d ∙ ap Ok c.1)).1)
        (λ (c : (p : ℕ) × (x ≡ Uncall p a)). begun st (refers st {x = Uncall c.0 a} (d ∙ ap Ok c.1)).1) o

    pub changed-call : {a : ℕ} → Calls x a → changed (reading_at h s n).as_stmt ≡ roots (reading_at h s a).as_arguments
    changed-call {a} o =
        ⊎_elim
        (λ (c : (p : ℕ) × (x ≡ Call p a)). changed-forward (d ∙ ap Ok c.1))
        (λ (c : (p : ℕ) × (x ≡ Uncall p a)). changed-back (d ∙ ap Ok c.1)) o

    module _ {l m : LValue} (o : Swaps x l m) where
      pub swapped : Naming nodes h s l × Naming nodes h s m
      swapped =
          ⊎_elim
          (λ (c : x ≡ Swap l m). let r = refers st (d ∙ ap Ok c) in (target_naming st {l = l} r.0, target_naming st {l = m} r.1))
          (λ (c : (e : ℕ) × (x ≡ ConditionalSwap l m e)).
          let r = refers st {x = ConditionalSwap l m c.0} (d ∙ ap Ok c.1) in (target_naming st {l = l} r.1.0, target_naming st {l = m} r.1.1)) o

      pub changed-swap : changed (reading_at h s n).as_stmt ≡ root_of l ∷ root_of m ∷ []
      changed-swap =
          ⊎_elim
          (λ (c : x ≡ Swap l m). changed-plain (d ∙ ap Ok c))
          (λ (c : (e : ℕ) × (x ≡ ConditionalSwap l m e)). changed-conditional (d ∙ ap Ok c.1)) o

    -- A call touches the names that its arguments do, a swap those that its targets do.
    module _ {marks : Names} {r : Bool} where
      pub touches_call : {a : ℕ} → Calls x a → AsArguments nodes a (λ s ls. Touches marks (roots ls) r) → Touches marks (changed (reading_at h s n).as_stmt) r
      touches_call o f = rw (changed-call o) (f h s (call_arguments o))

      pub touches_swap : {l m : LValue} → Swaps x l m → (root_of l < most → root_of m < most → Touches marks (root_of l ∷ root_of m ∷ []) r) → Touches marks (changed (reading_at h s n).as_stmt) r
      touches_swap {l} {m} o f = let g = swapped {l = l} {m = m} o in rw (changed-swap {l = l} {m = m} o) (f (root-small g.0) (root-small g.1))
