-- From a record that passes, after any sequence of edits, refused ones included: it passes again, its kept numbers are what a fresh
-- count of its tables gives, and every entry that no edit names is as it was.
use Rattle.std.specs.Prelude.{Bool, false, ◌||◌, List, [], ◌∷◌, ◌≡◌, refl, ℕ, ◌+◌, ◌≤◌, ◌<◌, eqb, ltb, leb, length, get_or, take, drop, set}
use Rattle.std.proofs.Common.{⊎_elim, sym, ◌∙◌, ltb-false, leb-false, le-ltb, eqb-true, length-set, get_or-set_same, get_or-set_other, drop-set-lt, length-take-le}
use Rattle.std.proofs.lemmas.Bool.{eqb-false, not-false}
use Rattle.std.proofs.Math.Seq.{take-set-lt}
use Rattle.rules.specs.Outcome.{Verdict, none, refused, given, ◌then◌}
use Rattle.rules.specs.Tables.{Tables, tables_of, vertices, edges_in, check1, table_checks, Accepted}
use Rattle.rules.specs.Record.{Record, Edit, set_priority, set_owner, turn_edge, tables_in, fresh_count, with_priorities, with_owners, with_targets}
use Rattle.rules.specs.Record.{room2, room3, size_checks, record_tables, kept_check, check47, record_checks, own_checks, edit_checks, changed, left_by, edited, edited_by}
use Rattle.basics.specs.Basics.{bool_cases, or_false_both}
use Rattle.theory.specs.Counts.{same_equal, equal_same}
use Rattle.theory.specs.MendingAccepted.{sound_accepted}
use Rattle.accepted.specs.Tables.{Sound, accepted_sound, then_none, given_none, check1_none}

-- ---- a record that passes

-- its sizes are within its room
pub record Roomy (r : Record) : Type 0 where
  pub few_vertices : r.n ≤ 4096
  pub owner_room : r.n ≤ length r.owners
  pub priority_room : r.n ≤ length r.priorities
  pub offset_room : r.n + 1 ≤ length r.offsets
  pub few_edges : r.m ≤ 16384
  pub target_room : r.m ≤ length r.targets

room2_none : (n o p f : ℕ) → room2 n o p f ≡ none → (n ≤ o) × (n ≤ p) × (n + 1 ≤ f)
unfolding room2
room2_none n o p f e =
    let tests = ltb o n || ltb p n || ltb f (n + 1) in
    let (both, c) = or_false_both (ltb o n || ltb p n) (ltb f (n + 1)) (given_none 2 0 tests e) in
    let (a, b) = or_false_both (ltb o n) (ltb p n) both in (ltb-false _ _ a, ltb-false _ _ b, ltb-false _ _ c)

room3_none : (m t : ℕ) → room3 m t ≡ none → (m ≤ 16384) × (m ≤ t)
unfolding room3
room3_none m t e =
    let (a, b) = or_false_both (ltb 16384 m) (ltb t m) (given_none 3 0 (ltb 16384 m || ltb t m) e) in
    (ltb-false _ _ a, ltb-false _ _ b)

pub roomy : (r : Record) → size_checks r ≡ none → Roomy r
roomy r e =
    let second = room2 r.n (length r.owners) (length r.priorities) (length r.offsets) in
    let third = room3 r.m (length r.targets) in
    let (one, rest) = then_none (check1 r.n) (second then third) e in
    let (two, three) = then_none second third rest in
    let (a, b, c) = room2_none r.n _ _ _ two in
    let (d, f) = room3_none r.m _ three in
    record {
      few_vertices = check1_none r.n one;
      owner_room = a;
      priority_room = b;
      offset_room = c;
      few_edges = d;
      target_room = f;
    }

pub roomy_passes : (r : Record) → Roomy r → size_checks r ≡ none
unfolding check1 room2 room3
roomy_passes r h =
    rw (
      le-ltb 4096 r.n h.few_vertices,
      le-ltb (length r.owners) r.n h.owner_room,
      le-ltb (length r.priorities) r.n h.priority_room,
      le-ltb (length r.offsets) (r.n + 1) h.offset_room,
      le-ltb 16384 r.m h.few_edges,
      le-ltb (length r.targets) r.m h.target_room,
    )

-- and its tables are accepted, and its kept numbers are what a fresh count of them gives
pub record EditPassing (r : Record) : Type 0 where
  pub room : Roomy r
  pub accepted : Accepted (tables_in r)
  pub fresh : r.kept ≡ fresh_count (take r.n r.priorities)

pub tables_pass : (r : Record) → record_tables r ≡ none → Roomy r × Accepted (tables_in r)
unfolding record_tables Accepted
tables_pass r e = let (sizes, tables) = then_none (size_checks r) (table_checks (tables_in r)) e in (roomy r sizes, tables)

pub tables_passing : (r : Record) → Roomy r → Accepted (tables_in r) → record_tables r ≡ none
unfolding record_tables Accepted
tables_passing r room ok = rw (roomy_passes r room) ok

pub fresh_none : (r : Record) → check47 r ≡ none → r.kept ≡ fresh_count (take r.n r.priorities)
unfolding kept_check
fresh_none r e = same_equal r.kept (fresh_count (take r.n r.priorities)) (not-false _ (given_none 47 0 _ e))

pub fresh_passes : (r : Record) → r.kept ≡ fresh_count (take r.n r.priorities) → check47 r ≡ none
unfolding kept_check
fresh_passes r e = rw (equal_same r.kept (fresh_count (take r.n r.priorities)) e)

pub passing : (r : Record) → record_checks r ≡ none → EditPassing r
unfolding record_checks
passing r e =
    let (tables, kept) = then_none (record_tables r) (check47 r) e in
    let (room, ok) = tables_pass r tables in
    record {
      room = room;
      accepted = ok;
      fresh = fresh_none r kept;
    }

pub passes : (r : Record) → EditPassing r → record_checks r ≡ none
unfolding record_checks
passes r h = rw (tables_passing r h.room h.accepted) (fresh_passes r h.fresh)

-- The tables of a record that passes are accepted.
pub record_accepted : (r : Record) → record_checks r ≡ none → Accepted (tables_in r)
record_accepted r e = (passing r e).accepted

-- ---- one edit

-- what every entry of a list has, every entry has after one is replaced by another that has it
each_set :
    (P : ℕ → Type 0) (xs : List ℕ) (v x : ℕ) →
    ((u : ℕ) → u < length xs → P (get_or xs u 0)) →
    P x →
    (u : ℕ) → u < length xs → P (get_or (set xs v x) u 0)
each_set P xs v x each p u l =
    ⊎_elim
    (λ h.
    let e = eqb-true u v h in
    let here : get_or (set xs v x) u 0 ≡ x = rw e (get_or-set_same xs v x 0 (rw e at l)) in rw here p)
    (λ h. rw (get_or-set_other xs v u x 0 (eqb-false u v h)) (each u l))
    (bool_cases (eqb u v))

-- tables stay sound where entries give way to others as good
sound_changed :
    (t : Tables) (owners priorities targets : List ℕ) →
    Sound t →
    length owners ≡ vertices t →
    length priorities ≡ vertices t →
    length targets ≡ edges_in t →
    ((v : ℕ) → v < vertices t → get_or owners v 0 ≤ 1) →
    ((v : ℕ) → v < vertices t → get_or priorities v 0 ≤ 255) →
    ((e : ℕ) → e < edges_in t → get_or targets e 0 < vertices t) →
    Sound (tables_of owners priorities t.offsets targets)
sound_changed t owners priorities targets s lo lp lt small low below =
    record {
      few_vertices = rw lo s.few_vertices;
      priority_each = lp ∙ sym lo;
      offset_each = rw lo s.offset_each;
      few_edges = rw lt s.few_edges;
      owner_small = rw lo small;
      priority_small = rw lo low;
      offset_first = s.offset_first;
      offset_next = rw lo s.offset_next;
      offset_grows = rw lo s.offset_grows;
      offset_last = rw (lo, lt) s.offset_last;
      target_below = rw (lo, lt) below;
      has_edge = rw lo s.has_edge;
    }

module _ (r : Record) (h : EditPassing r) where
  sound : Sound (tables_in r)
  sound = accepted_sound (tables_in r) h.accepted

  n_long : vertices (tables_in r) ≡ r.n
  n_long = length-take-le r.n r.owners h.room.owner_room

  p_long : length (take r.n r.priorities) ≡ r.n
  p_long = length-take-le r.n r.priorities h.room.priority_room

  priority_set : (v p : ℕ) → v < r.n → p ≤ 255 → EditPassing (with_priorities r (set r.priorities v p))
  priority_set v p l low =
      let t = tables_in r in
      record {
        room =
            record {
              few_vertices = h.room.few_vertices;
              owner_room = h.room.owner_room;
              priority_room = rw (length-set r.priorities v p) h.room.priority_room;
              offset_room = h.room.offset_room;
              few_edges = h.room.few_edges;
              target_room = h.room.target_room;
            };
        accepted =
            rw (take-set-lt r.n r.priorities v p l)
            (sound_accepted _
            (sound_changed t t.owners (set t.priorities v p) t.targets sound refl
            (length-set t.priorities v p ∙ p_long ∙ sym n_long)
            refl
            sound.owner_small
            (λ u k.
            each_set (λ x. x ≤ 255) t.priorities v p
            (λ w b. sound.priority_small w (rw (p_long ∙ sym n_long) at b))
            low
            u
            (rw (p_long ∙ sym n_long) k))
            sound.target_below));
        fresh = refl;
      }

  owner_set : (v o : ℕ) → v < r.n → o ≤ 1 → EditPassing (with_owners r (set r.owners v o))
  owner_set v o l small =
      let t = tables_in r in
      record {
        room =
            record {
              few_vertices = h.room.few_vertices;
              owner_room = rw (length-set r.owners v o) h.room.owner_room;
              priority_room = h.room.priority_room;
              offset_room = h.room.offset_room;
              few_edges = h.room.few_edges;
              target_room = h.room.target_room;
            };
        accepted =
            rw (take-set-lt r.n r.owners v o l)
            (sound_accepted _
            (sound_changed t (set t.owners v o) t.priorities t.targets sound
            (length-set t.owners v o)
            (p_long ∙ sym n_long)
            refl
            (each_set (λ x. x ≤ 1) t.owners v o sound.owner_small small)
            sound.priority_small
            sound.target_below));
        fresh = h.fresh;
      }

  edge_turned : (e w : ℕ) → e < r.m → w < r.n → EditPassing (with_targets r (set r.targets e w))
  edge_turned e w l below =
      let t = tables_in r in
      record {
        room =
            record {
              few_vertices = h.room.few_vertices;
              owner_room = h.room.owner_room;
              priority_room = h.room.priority_room;
              offset_room = h.room.offset_room;
              few_edges = h.room.few_edges;
              target_room = rw (length-set r.targets e w) h.room.target_room;
            };
        accepted =
            rw (take-set-lt r.m r.targets e w l)
            (sound_accepted _
            (sound_changed t t.owners t.priorities (set t.targets e w) sound refl
            (p_long ∙ sym n_long)
            (length-set t.targets e w)
            sound.owner_small
            sound.priority_small
            (each_set (λ x. x < vertices t) t.targets e w sound.target_below (rw n_long below))));
        fresh = h.fresh;
      }

-- an edit past its own checks leaves a record that passes
pub changed_passing : (e : Edit) (r : Record) → EditPassing r → own_checks e r ≡ none → EditPassing (changed e r)
unfolding own_checks
changed_passing (set_priority v p) r h ok =
    let (a, b) = then_none (given 41 v (leb r.n v)) (given 42 v (ltb 255 p)) ok in
    priority_set r h v p (leb-false _ _ (given_none 41 v _ a)) (ltb-false _ _ (given_none 42 v _ b))
changed_passing (set_owner v o) r h ok =
    let (a, b) = then_none (given 41 v (leb r.n v)) (given 48 v (ltb 1 o)) ok in
    owner_set r h v o (leb-false _ _ (given_none 41 v _ a)) (ltb-false _ _ (given_none 48 v _ b))
changed_passing (turn_edge e w) r h ok =
    let (a, b) = then_none (given 41 e (leb r.m e)) (given 43 e (leb r.n w)) ok in
    edge_turned r h e w (leb-false _ _ (given_none 41 e _ a)) (leb-false _ _ (given_none 43 e _ b))

-- what is left of a record that has a property
left_cases :
    (P : Record → Type 0) (v : Verdict) (e : Edit) (r : Record) → P r → (v ≡ none → P (changed e r)) → P (left_by v e r)
left_cases P none e r same other = other refl
left_cases P (refused k p) e r same other = same

pub edited_passing : (e : Edit) (r : Record) → EditPassing r → EditPassing (edited e r)
unfolding edited edit_checks
edited_passing e r h =
    left_cases EditPassing (record_checks r then own_checks e r) e r h
    (λ ok. changed_passing e r h (then_none (record_checks r) (own_checks e r) ok).1)

-- ---- any sequence of edits

edits_passing : (es : List Edit) (r : Record) → EditPassing r → EditPassing (edited_by es r)
unfolding edited_by
edits_passing [] r h = h
edits_passing (e ∷ es) r h = edits_passing es (edited e r) (edited_passing e r h)

-- From a record that passes, after any sequence of edits, the record passes,
pub edits_pass : (es : List Edit) (r : Record) → record_checks r ≡ none → record_checks (edited_by es r) ≡ none
edits_pass es r ok = passes (edited_by es r) (edits_passing es r (passing r ok))

-- and the kept numbers are what a fresh count of the tables then gives.
pub edits_counted :
    (es : List Edit) (r : Record) →
    record_checks r ≡ none →
    (edited_by es r).kept ≡ fresh_count (tables_in (edited_by es r)).priorities
edits_counted es r ok = (edits_passing es r (passing r ok)).fresh

-- ---- what no edit names

abbrev pub names_priority : ℕ → Edit → Bool
names_priority u (set_priority v p) = eqb u v
names_priority u (set_owner v o) = false
names_priority u (turn_edge e w) = false

abbrev pub names_owner : ℕ → Edit → Bool
names_owner u (set_priority v p) = false
names_owner u (set_owner v o) = eqb u v
names_owner u (turn_edge e w) = false

abbrev pub names_target : ℕ → Edit → Bool
names_target u (set_priority v p) = false
names_target u (set_owner v o) = false
names_target u (turn_edge e w) = eqb u e

-- some edit of a sequence passes the test
unfoldable pub some_edit : (Edit → Bool) → List Edit → Bool
some_edit test [] = false
some_edit test (e ∷ es) = test e || some_edit test es

-- the sizes and offsets are as they were, and every entry that none of the edits names, and every entry past the sizes
pub record Untouched (es : List Edit) (r s : Record) : Type 0 where
  pub vertices_stay : s.n ≡ r.n
  pub edges_stay : s.m ≡ r.m
  pub offsets_stay : s.offsets ≡ r.offsets
  pub owner : (v : ℕ) → some_edit (names_owner v) es ≡ false → get_or s.owners v 0 ≡ get_or r.owners v 0
  pub priority : (v : ℕ) → some_edit (names_priority v) es ≡ false → get_or s.priorities v 0 ≡ get_or r.priorities v 0
  pub target : (e : ℕ) → some_edit (names_target e) es ≡ false → get_or s.targets e 0 ≡ get_or r.targets e 0
  pub owners_beyond : drop r.n s.owners ≡ drop r.n r.owners
  pub priorities_beyond : drop r.n s.priorities ≡ drop r.n r.priorities
  pub targets_beyond : drop r.m s.targets ≡ drop r.m r.targets
  pub owner_room_stays : length s.owners ≡ length r.owners
  pub priority_room_stays : length s.priorities ≡ length r.priorities
  pub target_room_stays : length s.targets ≡ length r.targets

untouched_none : (es : List Edit) (r : Record) → Untouched es r r
untouched_none es r =
    record {
      vertices_stay = refl;
      edges_stay = refl;
      offsets_stay = refl;
      owner = λ v h. refl;
      priority = λ v h. refl;
      target = λ e h. refl;
      owners_beyond = refl;
      priorities_beyond = refl;
      targets_beyond = refl;
      owner_room_stays = refl;
      priority_room_stays = refl;
      target_room_stays = refl;
    }

-- the entry that is replaced is the one that is named, and it is within the sizes
changed_untouched : (e : Edit) (r : Record) → own_checks e r ≡ none → Untouched (e ∷ []) r (changed e r)
unfolding own_checks some_edit
changed_untouched (set_priority v p) r ok =
    let (a, b) = then_none (given 41 v (leb r.n v)) (given 42 v (ltb 255 p)) ok in
    record {
      vertices_stay = refl;
      edges_stay = refl;
      offsets_stay = refl;
      owner = λ u h. refl;
      priority = λ u h. get_or-set_other r.priorities v u p 0 (eqb-false u v (or_false_both (eqb u v) false h).0);
      target = λ u h. refl;
      owners_beyond = refl;
      priorities_beyond = drop-set-lt r.n r.priorities v p (leb-false _ _ (given_none 41 v _ a));
      targets_beyond = refl;
      owner_room_stays = refl;
      priority_room_stays = length-set r.priorities v p;
      target_room_stays = refl;
    }
changed_untouched (set_owner v o) r ok =
    let (a, b) = then_none (given 41 v (leb r.n v)) (given 48 v (ltb 1 o)) ok in
    record {
      vertices_stay = refl;
      edges_stay = refl;
      offsets_stay = refl;
      owner = λ u h. get_or-set_other r.owners v u o 0 (eqb-false u v (or_false_both (eqb u v) false h).0);
      priority = λ u h. refl;
      target = λ u h. refl;
      owners_beyond = drop-set-lt r.n r.owners v o (leb-false _ _ (given_none 41 v _ a));
      priorities_beyond = refl;
      targets_beyond = refl;
      owner_room_stays = length-set r.owners v o;
      priority_room_stays = refl;
      target_room_stays = refl;
    }
changed_untouched (turn_edge e w) r ok =
    let (a, b) = then_none (given 41 e (leb r.m e)) (given 43 e (leb r.n w)) ok in
    record {
      vertices_stay = refl;
      edges_stay = refl;
      offsets_stay = refl;
      owner = λ u h. refl;
      priority = λ u h. refl;
      target = λ u h. get_or-set_other r.targets e u w 0 (eqb-false u e (or_false_both (eqb u e) false h).0);
      owners_beyond = refl;
      priorities_beyond = refl;
      targets_beyond = drop-set-lt r.m r.targets e w (leb-false _ _ (given_none 41 e _ a));
      owner_room_stays = refl;
      priority_room_stays = refl;
      target_room_stays = length-set r.targets e w;
    }

edited_untouched : (e : Edit) (r : Record) → Untouched (e ∷ []) r (edited e r)
unfolding edited edit_checks
edited_untouched e r =
    left_cases (Untouched (e ∷ []) r) (record_checks r then own_checks e r) e r (untouched_none (e ∷ []) r)
    (λ ok. changed_untouched e r (then_none (record_checks r) (own_checks e r) ok).1)

-- one edit, then others
untouched_then :
    (e : Edit) (es : List Edit) (r s t : Record) → Untouched (e ∷ []) r s → Untouched es s t → Untouched (e ∷ es) r t
unfolding some_edit
untouched_then e es r s t a b =
    record {
      vertices_stay = b.vertices_stay ∙ a.vertices_stay;
      edges_stay = b.edges_stay ∙ a.edges_stay;
      offsets_stay = b.offsets_stay ∙ a.offsets_stay;
      owner =
          λ v h. let (one, rest) = or_false_both (names_owner v e) _ h in b.owner v rest ∙ a.owner v (rw one);
      priority =
          λ v h. let (one, rest) = or_false_both (names_priority v e) _ h in b.priority v rest ∙ a.priority v (rw one);
      target =
          λ u h. let (one, rest) = or_false_both (names_target u e) _ h in b.target u rest ∙ a.target u (rw one);
      owners_beyond = (rw a.vertices_stay at b.owners_beyond) ∙ a.owners_beyond;
      priorities_beyond = (rw a.vertices_stay at b.priorities_beyond) ∙ a.priorities_beyond;
      targets_beyond = (rw a.edges_stay at b.targets_beyond) ∙ a.targets_beyond;
      owner_room_stays = b.owner_room_stays ∙ a.owner_room_stays;
      priority_room_stays = b.priority_room_stays ∙ a.priority_room_stays;
      target_room_stays = b.target_room_stays ∙ a.target_room_stays;
    }

-- After any sequence of edits of any record, what no edit names is untouched.
pub edits_untouched : (es : List Edit) (r : Record) → Untouched es r (edited_by es r)
unfolding edited_by
edits_untouched [] r = untouched_none [] r
edits_untouched (e ∷ es) r =
    untouched_then e es r (edited e r) (edited_by es (edited e r)) (edited_untouched e r) (edits_untouched es (edited e r))
