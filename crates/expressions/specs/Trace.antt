-- The trace slice against the events: an event more, where there is room for it and where there is none.
use Rattle.std.specs.Prelude.{ℕ, suc, ◌+◌, ◌-◌, ◌^◌, ◌≤◌, ◌<◌, ◌≡◌, refl, List, [], ◌∷◌, ◌++◌, length, take, set, replicate, min}
use Rattle.std.proofs.Common.{sym, ap, ◌∙◌, append_assoc, arith, length-append, length-set, take_all}
use Rattle.std.proofs.Math.Logic.{dite}
use Rattle.std.proofs.Math.Decide.{dec_lt}
use Rattle.std.proofs.Math.Nat.{sub-zero}
use Rattle.std.proofs.lemmas.List.{take-append-le}
use Rattle.std.proofs.Math.Seq.{take-nil, set_out, set-append_seam}
use Rattle.expressions.specs.Relations.{saturated, Traced}

-- With room behind the events, the first zero becomes the event.
room_behind : (events : List ℕ) (event k : ℕ)
    → set (events ++ replicate (suc k) 0) (length events) event ≡ (events ++ (event ∷ [])) ++ replicate k 0
room_behind events event k = set-append_seam events 0 (replicate k 0) event ∙ sym (append_assoc events (event ∷ []) (replicate k 0))

module _ (trace : List ℕ) (entries : ℕ) (events : List ℕ) (t : Traced trace entries events) (short : length trace < 2 ^ 64) (event : ℕ) where
  abbrev more : List ℕ
  more = events ++ (event ∷ [])

  more-length : length more ≡ length events + 1
  more-length = length-append events (event ∷ [])

  abbrev rest : ℕ
  rest = length trace - length more

  module _ (l : entries < length trace) where
    here : entries ≡ length events
    unfolding saturated
    here = omega (arith, t.counted)

    before : trace ≡ events ++ replicate (suc rest) 0
    before =
        let behind : length trace - length events ≡ suc rest = omega (arith, here, more-length) in
        t.shown ∙ rw (take_all (length trace) events (omega (arith, here)), behind)

    shown_inside : set trace entries event ≡ take (length trace) more ++ replicate rest 0
    shown_inside =
        ap (λ x. set x entries event) before
        ∙ rw here (room_behind events event rest)
        ∙ ap (λ x. x ++ replicate rest 0) (sym (take_all (length trace) more (omega (arith, here, more-length))))

  shown_past : length trace ≤ entries → set trace entries event ≡ take (length trace) more ++ replicate rest 0
  unfolding saturated
  shown_past l =
      let full : length trace ≤ length events = omega (arith, t.counted) in
      let same : length trace - length events ≡ rest = omega (arith, more-length) in
      set_out trace entries event l ∙ t.shown ∙ rw (take-append-le (length trace) events (event ∷ []) full, same)

  shown_more : set trace entries event ≡ take (length trace) more ++ replicate rest 0
  shown_more = dite (dec_lt entries (length trace)) (λ l. shown_inside l) (λ no. shown_past (omega arith))

  pub traced_more : Traced (set trace entries event) (min (entries + 1) (2 ^ 64 - 1)) more
  unfolding saturated
  traced_more = record { shown = rw (length-set trace entries event) shown_more; counted = omega (arith, t.counted, more-length) }

-- Before the first event: zeros, and none counted.
pub traced_none : (trace : List ℕ) → trace ≡ replicate (length trace) 0 → Traced trace 0 []
unfolding saturated
traced_none trace e = record { shown = rw (take-nil, sub-zero) e; counted = refl }
