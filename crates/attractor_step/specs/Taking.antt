-- Taking a member is one of the rules' steps: from a state in which some members are taken, the looks along the row of one more
-- lead to one in which it is taken too.
use Rattle.std.specs.Prelude.{true, false, ◌&&◌, ◌||◌, ◌≡◌, refl, ℕ, ◌+◌, ◌≤◌, ◌<◌, eqb, length, get_or, take}
use mathlib.Core.List.{List, Memᴰ}
use Rattle.std.proofs.Common.{⊎_elim, sym, ap, subst, ◌∙◌, arith, eq-eqb, eqb-true}
use Rattle.std.proofs.Math.Path.{fun_ext}
use Rattle.rules.specs.Counting.{Set, some_of, times}
use Rattle.rules.specs.Game.{Player, Game, edges, same}
use Rattle.rules.specs.Attractor.{drawn}
use Rattle.theory.specs.Steps.{Growing, TakesOne}
use Rattle.basics.specs.Basics.{bool_cases, clash, bool_ext, and_intro, and_right, or_left, or_right, or_cases}
use Rattle.basics.specs.Basics.{not_true_is_false, not_false_is_true}
use Rattle.theory.specs.Players.{same_true, same_false, true_same, false_same}
use Rattle.basics.specs.Basics.{times_member, some_of_intro, lt_or_ge}
use Rattle.basics.specs.Sums.{count_of}
use Rattle.theory.specs.Attractor.{Draws, by_own, by_other, draws, drawn_so}
use Rattle.attractor_counters.specs.Tally.{tally_mono_on, tally_more, tally_pos, tally_some, tally_full}
use Rattle.attractor_look.specs.State.{State, looked}
use Rattle.attractor_look.specs.Looks.{Grown, Safe, Rest, grown_looked, looked_safe, onward_looked}

-- some members are taken, and the entries met are those of the taken
abbrev pub Standing : ℕ → (ℕ → List ℕ) → Set → Set → Set → Set → State → Type 0
Standing n targets V' T own taken s = Grown n targets V' T own taken (λ u. count_of (targets u) taken) s

-- the predecessor entries of w
pub record Row (n : ℕ) (targets : ℕ → List ℕ) (w : ℕ) (row : List ℕ) : Type 0 where
  pub small : (v : ℕ) → Memᴰ v row → v < n
  pub entries : (v : ℕ) → times v row ≡ times w (targets v)

-- S and w
abbrev pub and_one : ℕ → Set → Set
and_one w S u = S u || eqb u w

-- w may be taken next: a member that is not taken, with its row
pub record TakeReady (n : ℕ) (targets : ℕ → List ℕ) (taken : Set) (w : ℕ) (row : List ℕ) (s : State) : Type 0 where
  pub member : s.members w ≡ true
  pub fresh : taken w ≡ false
  pub listed : Row n targets w row

module _ (n : ℕ) (targets : ℕ → List ℕ) (V' T own taken : Set) (w far : ℕ) (row : List ℕ) (s : State)
    (st : Standing n targets V' T own taken s)
    (nx : TakeReady n targets taken w row s)
  where
    abbrev seen : ℕ → ℕ
    seen u = count_of (targets u) taken

    pub met : (u : ℕ) → seen u + times u row ≡ count_of (targets u) (and_one w taken)
    met u = ap (λ (x : ℕ). seen u + x) (nx.listed.entries u) ∙ sym (tally_more (targets u) taken w nx.fresh)

    good : Grown n targets V' T own (and_one w taken) seen s
    good =
        record {
          marks = st.marks;
          early =
              λ u p.
              ⊎_elim
              (λ q. st.early u q)
              (λ q. ap s.members (eqb-true u w q) ∙ nx.member)
              (or_cases (taken u) _ p);
        }

    rest : Rest n targets V' T own (and_one w taken) w far seen row
    rest = record { small = nx.listed.small; unmet = λ v. let h = met v in omega arith }

    -- each look is safe
    pub taking_safe : (k : ℕ) → k < length row → Safe n V' own (looked V' own w far (take k row) s) (get_or row k 0)
    taking_safe = looked_safe n targets V' T own (and_one w taken) w far row seen s good rest

    -- **after the looks w is taken too**
    pub taking_stands : Standing n targets V' T own (and_one w taken) (looked V' own w far row s)
    taking_stands =
        subst
        (λ (f : ℕ → ℕ). Grown n targets V' T own (and_one w taken) f (looked V' own w far row s))
        (fun_ext met)
        (grown_looked n targets V' T own (and_one w taken) w far row seen s good rest)

-- what the rules' steps see of a state
abbrev pub growing : Set → ℕ → State → Growing
growing taken looks s = record { members = s.members; taken = taken; looks = looks }

module _ (g : Game) (a : Player) (V' T own : Set) (owned : (v : ℕ) → own v ≡ same (g.owner v) a) where
  abbrev Standsᵍ : Set → State → Type 0
  Standsᵍ taken s = Standing g.size g.targets V' T own taken s

  own_is : (v : ℕ) → own v ≡ true → g.owner v ≡ a
  own_is v o = same_true (g.owner v) a (sym (owned v) ∙ o)

  other_is : (v : ℕ) → own v ≡ false → g.owner v ≡ a → ⊥
  other_is v o = same_false (g.owner v) a (sym (owned v) ∙ o)

  module _ (taken : Set) (s : State) (st : Standsᵍ taken s) where
    taken_inside : (u : ℕ) → taken u ≡ true → V' u ≡ true
    taken_inside u p = (st.marks u).member_inside (st.early u p)

    -- a member outside T is drawn in by the taken
    pub member_drawn : (v : ℕ) → s.members v ≡ true → T v ≡ false → Draws g a V' taken v
    member_drawn v m t = ⊎_elim mine theirs (bool_cases (own v))
      where
        mine : own v ≡ true → Draws g a V' taken v
        mine o =
            let (u, e, p) = tally_some (g.targets v) taken ((st.marks v).in_met m t) in
            by_own ((st.marks v).member_inside m) (own_is v o) e p

        theirs : own v ≡ false → Draws g a V' taken v
        theirs o =
            let (u, e, p) = tally_some (g.targets v) taken ((st.marks v).in_met m t) in
            by_other ((st.marks v).member_inside m) (other_is v o) e (taken_inside u p)
            (tally_full (g.targets v) taken V' taken_inside ((st.marks v).other_in m t o))

    -- and whatever is drawn in by the taken is a member
    pub drawn_member : (v : ℕ) → Draws g a V' taken v → s.members v ≡ true
    drawn_member v draw = not_false_is_true (s.members v) (in_out draw)
      where
        in_out : Draws g a V' taken v → s.members v ≡ false → ⊥
        in_out (by_own i o e p) out =
            let none = (st.marks v).own_out i out (owned v ∙ true_same (g.owner v) a o) in
            let some' = tally_pos (g.targets v) taken _ e p in
            omega arith
        in_out (by_other i o e j all) out =
            let theirs = owned v ∙ false_same (g.owner v) a o in
            let most = tally_mono_on (g.targets v) V' taken all in
            let some' = tally_pos (g.targets v) taken _ e (all _ e j) in
            let waits = (st.marks v).waiting i out theirs some' in
            let sums = (st.marks v).other_out i out theirs in
            omega arith

  module _ (taken : Set) (looks w far : ℕ) (row : List ℕ) (s : State) (st : Standsᵍ taken s)
      (nx : TakeReady g.size g.targets taken w row s) where
    abbrev next : State
    next = looked V' own w far row s

    stands : Standsᵍ (and_one w taken) next
    stands = taking_stands g.size g.targets V' T own taken w far row s st nx

    -- a vertex that came in has an entry in the row
    pub new_met : (v : ℕ) → s.members v ≡ false → next.members v ≡ true → Memᴰ v row
    new_met v out m = times_member v row (⊎_elim (λ l. l) (λ l. absurd (none l)) (lt_or_ge 0 (times v row)))
      where
        t : T v ≡ false
        t = not_true_is_false (T v) (λ p. clash ((st.marks v).target_in p) out)

        none : times v row ≤ 0 → ⊥
        none l =
            let same_seen = met g.size g.targets V' T own taken w far row s st nx v in
            let pos = (stands.marks v).in_met m t in
            let i = (stands.marks v).member_inside m in
            ⊎_elim
            (λ o. let zero_seen = (st.marks v).own_out i out o in omega arith)
            (λ o.
            let waits = (st.marks v).waiting i out o (omega arith) in
            let sums = (st.marks v).other_out i out o in
            let full = (stands.marks v).other_in m t o in
            omega arith)
            (bool_cases (own v))

    members_next :
        (v : ℕ) → next.members v ≡ (s.members v || some_of row (eqb v) && drawn g a V' (and_one w taken) v)
    members_next v =
        bool_ext
        (next.members v)
        (s.members v || some_of row (eqb v) && drawn g a V' (and_one w taken) v)
        (λ m.
        ⊎_elim
        (λ i. or_left (s.members v) _ i)
        (λ out.
        or_right (s.members v) _
        (and_intro
        (some_of_intro row (eqb v) v (new_met v out m) (eq-eqb v v refl))
        (drawn_so v
        (member_drawn (and_one w taken) next stands v m
        (not_true_is_false (T v) (λ p. clash ((st.marks v).target_in p) out))))))
        (bool_cases (s.members v)))
        (λ p.
        ⊎_elim
        (λ i. (onward_looked V' own w far row s).members v i)
        (λ q. drawn_member (and_one w taken) next stands v (draws v (and_right (some_of row (eqb v)) _ q)))
        (or_cases (s.members v) _ p))

    -- **taking w is one of the rules' steps, the entries it meets included**
    pub taking_step : TakesOne g a V' (growing taken looks s) (growing (and_one w taken) (looks + length row) next)
    unfolding edges
    taking_step =
        record {
          vertex = w;
          member = nx.member;
          fresh = nx.fresh;
          sources = row;
          entries = nx.listed.entries;
          looks = refl;
          taken = λ v. refl;
          members = members_next;
        }
