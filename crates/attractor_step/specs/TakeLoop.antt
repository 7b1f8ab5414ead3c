-- Taking a member over the work area: what it asks for, how the looks along its row go, and that it is one of the rules' steps.
use Rattle.std.specs.Prelude.{List, ◌≡◌, ℕ, suc, ◌+◌, ◌-◌, ◌≤◌, ◌<◌, length, get_or, take, drop}
use Rattle.std.proofs.Common.{sym, ap, subst, ◌∙◌, inl, le_refl, arith, length-take, length-drop, take-suc, take_all, get_or-take, get_or-drop}
use Rattle.std.proofs.Math.Nat.{sub_self}
use Rattle.rules.specs.Counting.{Set}
use Rattle.rules.specs.Game.{Player, Game, same}
use Rattle.theory.specs.Steps.{TakesOne}
use Rattle.predecessors.specs.Table.{start, row, SoundEdges}
use Rattle.layer.specs.Layer.{Layer}
use Rattle.attractor_drawing.specs.Drawn.{Plan, inside}
use Rattle.attractor_counters.specs.Counters.{own_of, inside_count, counts_in}
use Rattle.attractor_look.specs.State.{State, touched, looked, looked_none, looked_more}
use Rattle.attractor_look.specs.Looks.{Safe}
use Rattle.attractor_step.specs.Taking.{Standing, TakeReady, and_one, growing, taking_step}
use Rattle.attractor_look.specs.InArea.{layer_at, state_at, state_in, SetsPlaced, SetRoom, Makes, Touchable}
use Rattle.attractor_look.specs.InAreaLaws.{kept_set, kept_placed, kept_room_lem, becomes_same, becomes_then, becomes_as}

-- what `take` asks for: the row of w lies in the table, and each look along it is safe
pub record Takeable (d : Plan) (next : ℕ) (work : List ℕ) (w far : ℕ) : Type 0 where
  pub edges : SoundEdges (length d.owners) d.offsets d.targets
  pub placed : SetsPlaced (length d.owners) (length d.targets) d.within d.set work
  pub room : SetRoom (length d.owners) (length d.targets) d.set next work
  pub layer : Layer (layer_at (length d.owners) next work)
  pub small : w < length d.owners
  pub rising : start work w ≤ start work (w + 1)
  pub top : start work (w + 1) ≤ length d.targets
  pub safe :
      let n = length d.owners in
      (k : ℕ) →
      k < length (row n work w) →
      Safe n (inside d work) (own_of d)
      (looked (inside d work) (own_of d) w far (take k (row n work w)) (state_in d work next work))
      (get_or (row n work w) k 0)

-- what `take` leaves: the looks along the row were made; and in a game whose predecessor entries of w are that row, with w a
-- member not yet taken, this is one of the rules' steps, the entries it meets included
pub record Took (d : Plan) (next w far : ℕ) (before after : List ℕ) : Type 0 where
  pub becomes :
      Makes (counts_in d before) d next (looked (inside d before) (own_of d) w far (row (length d.owners) before w)) before after
  pub step :
      let here = row (length d.owners) before w in
      let state = state_in d before next in
      (g : Game) (a : Player) (T taken : Set) (looks : ℕ) →
      ((v : ℕ) → own_of d v ≡ same (g.owner v) a) →
      Standing g.size g.targets (inside d before) T (own_of d) taken (state before) →
      TakeReady g.size g.targets taken w here (state before) →
      TakesOne g a (inside d before) (growing taken looks (state before))
      (growing (and_one w taken) (looks + length here) (state after))

-- ---- rows

pub row_length :
    (n w : ℕ) (work : List ℕ) → n + 1 + start work (w + 1) ≤ length work → length (row n work w) ≡ start work (w + 1)
    - start work w
row_length n w work h = simp (length-take, length-drop) (omega arith)

pub row_at :
    (n w k : ℕ) (work : List ℕ) → n + 1 + start work (w + 1) ≤ length work → k < start work (w + 1) - start work w →
    get_or (row n work w) k 0 ≡ get_or work (n + 1 + start work w + k) 0
row_at n w k work h l =
    get_or-take ((n + 1 + start work (w + 1)) - (n + 1 + start work w)) (drop (n + 1 + start work w) work) k 0 (omega arith) ∙
    get_or-drop (n + 1 + start work w) work k 0

-- ---- the loop

-- the looks up to entry e were made
pub record Looking (d : Plan) (next w far : ℕ) (before : List ℕ) (e : ℕ) (after : List ℕ) : Type 0 where
  pub low : start before w ≤ e
  pub high : e ≤ start before (w + 1)
  pub becomes :
      Makes (counts_in d before) d next
      (looked (inside d before) (own_of d) w far (take (e - start before w) (row (length d.owners) before w)))
      before after

module _ (d : Plan) (next w far : ℕ) (before : List ℕ) (given : Takeable d next before w far) where
  abbrev n : ℕ
  n = length d.owners

  abbrev m : ℕ
  m = length d.targets

  abbrev V' : Set
  V' = inside d before

  abbrev own : Set
  own = own_of d

  abbrev counts : ℕ → ℕ
  counts = counts_in d before

  abbrev here : List ℕ
  here = row n before w

  abbrev Looks : ℕ → List ℕ → Type 0
  Looks e after = Looking d next w far before e after

  -- the row lies before the counters, and so in the work area
  row_fits : n + 1 + start before (w + 1) ≤ length before
  row_fits = omega (arith, given.top, given.placed.within_low, given.placed.within_high)

  pub looking_none : Looks (start before w) before
  looking_none =
      record {
        low = le_refl (start before w);
        high = given.rising;
        becomes =
            becomes_as
            (looked V' own w far (take (start before w - start before w) here))
            (becomes_same counts n m d.set next before)
            (ap (λ (k : ℕ). looked V' own w far (take k here) (state_in d before next before)) (sub_self (start before w)) ∙
            looked_none V' own w far (state_in d before next before));
      }

  module _ (e : ℕ) (after : List ℕ) (l : Looks e after) (more : e < start before (w + 1)) where
    short : e - start before w < length here
    short = omega (arith, row_length n w before row_fits, l.low)

    -- what is read is the next entry of the row
    pub entry_read : get_or after (n + 1 + e) 0 ≡ get_or here (e - start before w) 0
    entry_read =
        l.becomes.kept.rest (n + 1 + e) (inl (omega (arith, given.top))) ∙
        ap (λ (i : ℕ). get_or before i 0) at ∙
        sym (row_at n w (e - start before w) before row_fits (omega (arith, l.low)))
      where
        at : n + 1 + e ≡ n + 1 + start before w + (e - start before w)
        at = omega (arith, l.low)

    same_inside : inside d after ≡ V'
    same_inside = kept_set n m d.within d.set next before after given.placed given.room l.becomes.kept

    pub look_ready : Touchable d next after (get_or after (n + 1 + e) 0)
    look_ready =
        record {
          edges = given.edges;
          placed = kept_placed l.becomes.kept given.placed;
          room = kept_room_lem l.becomes.kept given.room;
          layer = l.becomes.layer given.layer;
          safe =
              subst
              (λ (v : ℕ).
              Safe n (inside d after) own (state_in d after next after) v)
              (sym entry_read)
              (subst
              (λ (S : Set).
              Safe n S own (state_at (inside_count d.offsets d.targets S) n m d.set next after) (get_or here (e - start before w) 0))
              (sym same_inside)
              (subst
              (λ (t : State). Safe n V' own t (get_or here (e - start before w) 0))
              (sym l.becomes.state)
              (given.safe (e - start before w) short)));
        }

    -- one look more
    pub looking_more :
        (after' : List ℕ) →
        Makes (counts_in d after) d next (touched (inside d after) own w far (get_or after (n + 1 + e) 0)) after after' →
        Looks (e + 1) after'
    looking_more after' b =
        record {
          low = omega (arith, l.low);
          high = omega arith;
          becomes = becomes_as (looked V' own w far (take (e + 1 - start before w) here)) (becomes_then l.becomes here_becomes)
              same_looks;
        }
      where
        one_more : e + 1 - start before w ≡ suc (e - start before w)
        one_more = omega (arith, l.low)

        here_becomes : Makes counts d next (touched V' own w far (get_or after (n + 1 + e) 0)) after after'
        here_becomes =
            subst
            (λ (S : Set).
            Makes (inside_count d.offsets d.targets S) d next (touched S own w far (get_or after (n + 1 + e) 0)) after after')
            same_inside b

        same_looks :
            looked V' own w far (take (e + 1 - start before w) here) (state_in d before next before) ≡
            touched V' own w far (get_or after (n + 1 + e) 0)
            (looked V' own w far (take (e - start before w) here) (state_in d before next before))
        same_looks =
            let t = looked V' own w far (take (e - start before w) here) (state_in d before next before) in
            ap (λ (k : ℕ). looked V' own w far (take k here) (state_in d before next before)) one_more ∙
            ap
            (λ (vs : List ℕ). looked V' own w far vs (state_in d before next before))
            (take-suc here (e - start before w) 0 short) ∙
            looked_more V' own w far (get_or here (e - start before w) 0) (take (e - start before w) here)
            (state_in d before next before) ∙
            ap (λ (v : ℕ). touched V' own w far v t) (sym entry_read)

  -- all looks were made
  pub looking_all : (e : ℕ) (after : List ℕ) → Looks e after → start before (w + 1) ≤ e →
      Took d next w far before after
  looking_all e after l done =
      record {
        becomes = all;
        step =
            λ g a T taken looks owned st ready.
            subst
            (λ (t : State).
            TakesOne g a V' (growing taken looks (state_in d before next before))
            (growing (and_one w taken) (looks + length here) t))
            (sym all.state)
            (taking_step g a V' T own owned taken looks w far here (state_in d before next before) st ready);
      }
    where
      all : Makes counts d next (looked V' own w far here) before after
      all =
          becomes_as (looked V' own w far here) l.becomes
          (ap
          (λ (vs : List ℕ). looked V' own w far vs (state_in d before next before))
          (sym (take_all (e - start before w) here (omega (arith, row_length n w before row_fits, l.low)))))
