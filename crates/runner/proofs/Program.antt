-- What an accepted image is to the executors: its records fit, its bodies are statements that keep to their own names, its locals have
-- good homes; and once both kinds of rows are set, the names of the last procedure live where its execution starts.
use Prim.Native.Nat.{ℕ, ◌-◌, ◌*◌, ◌<◌}
use mathlib.Core.Path.{◌≡◌, refl}
use mathlib.Core.List.{List}
use mathlib.Core.Bool.{true}
use mathlib.Core.Logic.{inl}
use native.Mathlib.Omega.{arith}
use lib.ListN.{length}
use lib.Dec.{lit<}
use Rattle.rules.specs.Image.{Header, header_of, Parts, parts_of, procedure_of, node_of}
use Rattle.rules.specs.Form.{format_refusal, layout_refusal, record_fits, node_refusal}
use Rattle.rules.specs.Tree.{body_of}
use Rattle.rules.specs.Check.{slow, verdict_for, verdict}
use Rattle.rules.specs.Machine.{Env}
use Rattle.rules.specs.Run.{home, store_slots, env_of, last_of}
use Rattle.laws.specs.Verdicts.{is_true, then_first, then_rest, lowest-passed}
use Rattle.laws.specs.Records as laws
use Rattle.laws.specs.Records.{laid, part_long, Sound, sound, ranges_ordered}
use Rattle.entry.proofs.Outcomes.{Entered, entered}
use Rattle.entry.proofs.Names as names
use Rattle.entry.proofs.Names.{formed, rows_home, rows_starting, starting-good}
use Rattle.expressions.specs.Relations.{Good}
use Rattle.records.specs.Slots.{Table}
use Rattle.executors.specs.World.{Code, Statement, World, Stands}
use Rattle.runner.specs.Runs.{Ready, slots_begun}
use Rattle.runner.proofs.Keeps.{within_body}

-- The nodes' part is as long as its records.
image_nodes : (image : List ℕ) → (verdict image).number ≡ 0 → (header_of image).nodes * 12 ≡ length (parts_of image).nodes
unfolding verdict verdict_for layout_refusal
image_nodes image e =
    let L = laid (header_of image) (length image) (then_first (layout_refusal image) _ (then_rest (format_refusal image) _ e)) in
    let p = part_long image (header_of image).node_part (header_of image).constant_part (omega arith) in
    omega arith

module _ {h : Header} {s : Parts} {works : ℕ} {lengths store : List ℕ} (R : Ready h s works lengths store) where
  pub keeps : Sound slow h s
  unfolding verdict
  keeps = rw (← R.header_is, ← R.parts_are) (sound slow R.image R.passed)

  pub inside : Entered h s works lengths store
  inside = entered h s works lengths store R.let_in

  pub nodes_long : h.nodes * 12 ≡ length s.nodes
  nodes_long = rw (← R.header_is, ← R.parts_are) (image_nodes R.image R.passed)

  pub record_fits_lem : (m : ℕ) → m < h.nodes → record_fits h s.nodes m (node_of s.nodes m) ≡ true
  unfolding node_refusal
  record_fits_lem m l = is_true _ (lowest-passed 5 (λ n. record_fits h s.nodes n (node_of s.nodes n)) 0 h.nodes (lit< tt) keeps.nodes m (omega arith) (omega arith))

  unfoldable code : Code s.nodes
  code = record { header = h; long = nodes_long; few = keeps.few; narrow = keeps.narrow; fit = record_fits_lem }

  pub body_statement : (p : ℕ) → p < h.procedures → Statement s.nodes (procedure_of s.procedures p).body
  unfolding code
  body_statement p l = record { code = code; inside = (keeps.procedure p l).body; classed = is_true _ (laws.body_statement keeps p l) }

  pub home-good : (y : ℕ) → y < h.variables → Good (home h s (length store) y)
  home-good y l = let g = names.home-good (formed keeps) inside y l in record { some = g.0; most = g.1; placed = g.2 }

  -- ---- the program of the executors

  unfoldable pub world : World s.nodes s.procedures s.variables s.constants
  world = record {
    h = h;
    s = s;
    homes = home h s (length store);
    program = record { nodes_are = refl; variables-are = refl; constants-are = refl; long = nodes_long; few = keeps.few; fit = record_fits_lem };
    procedures_are = refl;
    apart = λ q p l m. ranges_ordered h s keeps.procedure q p l m;
    parameters = λ q l. omega (arith, (keeps.procedure q l).parameters);
    within = λ q l. within_body slow s q (body_of h s q) (keeps.procedure q l).parameters (keeps.walked q l);
    good = λ q y l a b. home-good y (omega (arith, (keeps.procedure q l).end));
  }

  -- Where the last procedure's names live at the start.
  abbrev pub starting : Env
  starting = env_of (home h s (length store)) (last_of h s) (store_slots s (last_of h s).first 0 lengths)

  pub last_one : h.procedures - 1 < h.procedures
  last_one = omega (arith, keeps.some)

  pub stands : (slots slots' : Table) → length slots ≡ 1024 → length slots' ≡ 1024 → slots' ≡ slots_begun h s lengths (length store) slots → Stands world (h.procedures - 1) slots' starting
  unfolding world
  stands slots slots' long long' e =
      let last = keeps.procedure (h.procedures - 1) last_one in
      record {
        mine = last_one;
        agree = record {
          rows = λ y l u. rows_starting (formed keeps) inside slots _ slots' long refl e y l u;
          good = λ y l u. let g = starting-good (formed keeps) inside slots _ slots' long refl e y l u in record { some = g.0; most = g.1; placed = g.2 };
          room = omega (arith, last.end, keeps.narrow);
        };
        home = λ q y lq l u. rows_home (formed keeps) inside slots _ slots' long refl e y (omega (arith, (keeps.procedure q (omega (arith, last_one))).end))
            (inl (omega (arith, ranges_ordered h s keeps.procedure q (h.procedures - 1) lq last_one)));
      }
