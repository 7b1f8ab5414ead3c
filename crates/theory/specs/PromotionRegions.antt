-- Where the regions of priority promotion stand, apart from any entries: what is true of the unsolved vertices X, their regions r and
-- the current priority p, and that attracting, going down, promoting and starting afresh keep it.
use Rattle.std.specs.Prelude.{true, false, ◌⊎◌, ◌≡◌, refl, ℕ, zero, suc, ◌≤◌, ◌<◌}
use Rattle.std.proofs.Common.{⊎_elim, sym, ap, ◌∙◌, not-suc-le-zero, le_refl, le_trans, le_of_eq, eq-or-lt_of_le, arith}
use Rattle.rules.specs.Counting.{Set}
use Rattle.rules.specs.Game.{Player, Game, Edge, parity}
use Rattle.rules.specs.Attractor.{Closed}
use Rattle.basics.specs.Basics.{bool_cases, clash, bool_ext, lt_or_ge, not_false_is_true}
use Rattle.theory.specs.Players.{other_player, player_cases}
use Rattle.theory.specs.Dominion.{owner_cases}
use Rattle.theory.specs.Attractor.{Draws, by_own, by_other, draws}
use Rattle.theory.specs.AttractorComplement.{TotalIn, own_stays_out, other_gets_out}
use Rattle.theory.specs.AttractorRank.{Ranked}
use Rattle.theory.specs.PromotionBasics.{at_region, up_to, at_intro, at_in, at_is, at_out, not_at, up_intro, up_in, up_le, closed_cong}

-- region q draws in no vertex of a lower region: no vertex of q's player there has an edge into it, and no other's has edges among the
-- regions up to q that all lead into it
abbrev pub SettledAt : Game → Set → (ℕ → ℕ) → ℕ → Type 0
SettledAt g X r q = Closed g (parity q) (up_to X r q) (at_region X r q) (at_region X r q)

-- where the regions stand
pub record Placed (g : Game) (X : Set) (r : ℕ → ℕ) (p : ℕ) : Type 0 where
  pub below : (v : ℕ) → X v ≡ true → v < g.size
  pub total : TotalIn g X
  -- where there is a vertex, there is one in region p
  pub present : (v : ℕ) → X v ≡ true → (u : ℕ) × (X u ≡ true) × (r u ≡ p)
  -- no priority is above its region
  pub high : (v : ℕ) → X v ≡ true → g.priority v ≤ r v
  -- below p the region is the priority
  pub fresh : (v : ℕ) → X v ≡ true → r v < p → r v ≡ g.priority v
  -- an opponent's vertex whose priority is below its region has no edge to a lower region
  pub upward :
      (v w : ℕ) →
      X v ≡ true →
      (g.owner v ≡ parity (r v) → ⊥) →
      g.priority v < r v →
      Edge g v w →
      X w ≡ true →
      r v ≤ r w
  -- the regions above p draw in nothing more
  pub settled : (q : ℕ) → p < q → SettledAt g X r q

-- nothing is drawn into an empty set
pub closed_empty : {g : Game} {a : Player} (V' S : Set) → ((v : ℕ) → S v ≡ false) → Closed g a V' S S
closed_empty {g} {a} V' S empty =
    record { target = λ v p. p; attracted = λ v p. absurd (stuck (draws v p)) }
  where
    stuck : {v : ℕ} → Draws g a V' S v → ⊥
    stuck (by_own {w} i o e s) = clash s (empty w)
    stuck (by_other {w} i o e j all) = clash (all w e j) (empty w)

-- a region that no vertex has draws in nothing
pub settled_empty : {g : Game} (X : Set) (r : ℕ → ℕ) (q : ℕ) → ((v : ℕ) → X v ≡ true → r v ≡ q → ⊥) → SettledAt g X r q
settled_empty X r q empty = closed_empty (up_to X r q) (at_region X r q) (λ v. at_out X r q v (empty v))

-- being settled depends on the regions of the vertices of X alone, and only on those up to q
pub settled_cong :
    {g : Game} (X : Set) (r r' : ℕ → ℕ) (q : ℕ) →
    ((v : ℕ) → X v ≡ true → r v ≤ q → r' v ≤ q) →
    ((v : ℕ) → X v ≡ true → r' v ≤ q → r v ≤ q) →
    ((v : ℕ) → X v ≡ true → r v ≡ q → r' v ≡ q) →
    ((v : ℕ) → X v ≡ true → r' v ≡ q → r v ≡ q) →
    SettledAt g X r q →
    SettledAt g X r' q
settled_cong X r r' q to from is-to is-from =
    closed_cong
    (up_to X r q)
    (up_to X r' q)
    (at_region X r q)
    (at_region X r' q)
    (λ v.
    bool_ext
    (up_to X r q v)
    (up_to X r' q v)
    (λ i. up_intro X r' q v (up_in X r q v i) (to v (up_in X r q v i) (up_le X r q v i)))
    (λ i. up_intro X r q v (up_in X r' q v i) (from v (up_in X r' q v i) (up_le X r' q v i))))
    (λ v.
    bool_ext
    (at_region X r q v)
    (at_region X r' q v)
    (λ i. at_intro X r' q v (at_in X r q v i) (is-to v (at_in X r q v i) (at_is X r q v i)))
    (λ i. at_intro X r q v (at_in X r' q v i) (is-from v (at_in X r' q v i) (at_is X r' q v i))))

-- edges within the regions up to p

module _ {g : Game} {X : Set} {r : ℕ → ℕ} {p : ℕ} (placed : Placed g X r p) (v : ℕ) (inX : X v ≡ true) (low : r v ≤ p) where
  -- a vertex of a region up to p that has an edge above p has one to a lower region than that
  lower_edge : (u : ℕ) → Edge g v u → X u ≡ true → p < r u → (w : ℕ) × Edge g v w × (X w ≡ true) × (r w < r u)
  lower_edge u e i above = ⊎_elim mine theirs (owner_cases g (parity (r u)) v)
    where
      q : ℕ
      q = r u

      closed : SettledAt g X r q
      closed = placed.settled q above

      up_v : up_to X r q v ≡ true
      up_v = up_intro X r q v inX (omega arith)

      out_v : at_region X r q v ≡ false
      out_v = at_out X r q v (λ i e. omega arith)

      mine : g.owner v ≡ parity q → (w : ℕ) × Edge g v w × (X w ≡ true) × (r w < r u)
      mine o = absurd (clash (at_intro X r q u i refl) (own_stays_out closed v u up_v out_v o e))

      theirs : (g.owner v ≡ parity q → ⊥) → (w : ℕ) × Edge g v w × (X w ≡ true) × (r w < r u)
      theirs o =
          let (w, d, m, n) = other_gets_out closed v u up_v out_v o e (up_intro X r q u i (le_refl q)) in
          let k = up_in X r q w m in
          let differs = not_at X r q w n k in
          let l = up_le X r q w m in
          (w, d, k, ⊎_elim (λ same. absurd (differs same)) (λ less. less) (eq-or-lt_of_le l))

  -- so it has one to a region up to p
  descend : (k u : ℕ) → Edge g v u → X u ≡ true → r u < k → (w : ℕ) × Edge g v w × (up_to X r p w ≡ true)
  descend zero u e i l = absurd (not-suc-le-zero l)
  descend (suc k) u e i l =
      ⊎_elim
      (λ above. let (w, d, j, less) = lower_edge u e i above in descend k w d j (omega arith))
      (λ near. (u, e, up_intro X r p u i near))
      (lt_or_ge p (r u))

-- **Each vertex of a region up to p has an edge to a region up to p.**
pub below_total : {g : Game} {X : Set} {r : ℕ → ℕ} {p : ℕ} → Placed g X r p → TotalIn g (up_to X r p)
below_total {g} {X} {r} {p} placed v i =
    let (u, e, j) = placed.total v (up_in X r p v i) in
    descend placed v (up_in X r p v i) (up_le X r p v i) (suc (r u)) u e j (le_refl (suc (r u)))

-- starting afresh: each region is the priority, and p is the highest
pub placed_afresh :
    {g : Game} {X : Set} {r : ℕ → ℕ} {p : ℕ} →
    ((v : ℕ) → X v ≡ true → v < g.size) →
    TotalIn g X →
    ((v : ℕ) → X v ≡ true → (u : ℕ) × (X u ≡ true) × (r u ≡ p)) →
    ((v : ℕ) → X v ≡ true → r v ≤ p) →
    ((v : ℕ) → X v ≡ true → r v ≡ g.priority v) →
    Placed g X r p
placed_afresh {g} {X} {r} {p} below total present top same =
    record {
      below = below;
      total = total;
      present = present;
      high = λ v i. le_of_eq (sym (same v i));
      fresh = λ v i l. same v i;
      upward = λ v w i o l. let e = same v i in absurd (omega arith);
      settled = λ q l. settled_empty X r q (λ v i e. let t = top v i in omega arith);
    }

-- attracting

module _
    {g : Game}
    {X : Set}
    {r : ℕ → ℕ}
    {p : ℕ}
    {R : Set}
    (placed : Placed g X r p)
    (cert : Ranked g (parity p) (up_to X r p) (at_region X r p) R)
    (r' : ℕ → ℕ)
    (gained : (v : ℕ) → R v ≡ true → r' v ≡ p)
    (rest : (v : ℕ) → X v ≡ true → R v ≡ false → r' v ≡ r v)
  where
    -- R lies in X, in regions up to p
    pub gained_in : (v : ℕ) → R v ≡ true → X v ≡ true
    gained_in v m = up_in X r p v (cert.inside v m)

    pub gained_low : (v : ℕ) → R v ≡ true → r v ≤ p
    gained_low v m = up_le X r p v (cert.inside v m)

    -- no region sinks
    pub never_lower : (v : ℕ) → X v ≡ true → r v ≤ r' v
    never_lower v i =
        ⊎_elim
        (λ m. le_trans (gained_low v m) (le_of_eq (sym (gained v m))))
        (λ m. le_of_eq (sym (rest v i m)))
        (bool_cases (R v))

    -- outside the new region p it stays
    pub same_above : (v : ℕ) → X v ≡ true → p < r v → r' v ≡ r v
    same_above v i l =
        ⊎_elim (λ m. let k = gained_low v m in absurd (omega arith)) (λ m. rest v i m) (bool_cases (R v))

    pub same_elsewhere : (v : ℕ) → X v ≡ true → (r' v ≡ p → ⊥) → r' v ≡ r v
    same_elsewhere v i n = ⊎_elim (λ m. absurd (n (gained v m))) (λ m. rest v i m) (bool_cases (R v))

    -- R is the new region p
    pub gained_is : (v : ℕ) → R v ≡ at_region X r' p v
    gained_is v =
        bool_ext
        (R v)
        (at_region X r' p v)
        (λ m. at_intro X r' p v (gained_in v m) (gained v m))
        (λ m.
        not_false_is_true
        (R v)
        (λ out.
        let i = at_in X r' p v m in
        let e = sym (rest v i out) ∙ at_is X r' p v m in clash (cert.closed.target v (at_intro X r p v i e)) out))

    -- **Attracting keeps where the regions stand**,
    pub placed_attracted : Placed g X r' p
    placed_attracted =
        record {
          below = placed.below;
          total = placed.total;
          present =
              λ v i.
              let (u, j, e) = placed.present v i in
              (u, j, gained u (cert.closed.target u (at_intro X r p u j e)));
          high = λ v i. le_trans (placed.high v i) (never_lower v i);
          fresh =
              λ v i l.
              let e = same_elsewhere v i (λ k. omega arith) in e ∙ placed.fresh v i (rw e at l);
          upward = λ v w i o l e j. ⊎_elim (upward_in v w i o l e j) (upward_out v w i o l e j) (bool_cases (R v));
          settled =
              λ q l.
              settled_cong X r r' q
              (λ v i k. ⊎_elim (λ m. le_trans (le_of_eq (gained v m)) (omega arith)) (λ m. rw (rest v i m) k) (bool_cases (R v)))
              (λ v i k. le_trans (never_lower v i) k)
              (λ v i k. same_above v i (omega arith) ∙ k)
              (λ v i k. sym (same_elsewhere v i (λ e. omega arith)) ∙ k)
              (placed.settled q l);
        }
      where
        upward_out :
            (v w : ℕ) →
            X v ≡ true →
            (g.owner v ≡ parity (r' v) → ⊥) →
            g.priority v < r' v →
            Edge g v w →
            X w ≡ true →
            R v ≡ false →
            r' v ≤ r' w
        upward_out v w i o l e j m =
            let same = rest v i m in
            rw same
            (le_trans (placed.upward v w i (λ k. o (k ∙ ap parity (sym same))) (rw same at l) e j) (never_lower w j))

        upward_in :
            (v w : ℕ) →
            X v ≡ true →
            (g.owner v ≡ parity (r' v) → ⊥) →
            g.priority v < r' v →
            Edge g v w →
            X w ≡ true →
            R v ≡ true →
            r' v ≤ r' w
        upward_in v w i o l e j m = rw (gained v m) (⊎_elim old new (bool_cases (at_region X r p v)))
          where
            theirs : g.owner v ≡ parity p → ⊥
            theirs k = o (k ∙ ap parity (sym (gained v m)))

            old : at_region X r p v ≡ true → p ≤ r' w
            old t =
                let same = at_is X r p v t in
                let first : g.priority v < r v = rw (gained v m ∙ sym same) at l in
                let up = placed.upward v w i (λ k. theirs (k ∙ ap parity same)) first e j in
                let later = never_lower w j in omega arith

            new : at_region X r p v ≡ false → p ≤ r' w
            new t =
                ⊎_elim
                (λ above. let later = never_lower w j in omega arith)
                (λ near. le_of_eq (sym (gained w (cert.pushed v m t theirs w e (up_intro X r p w j near)).0)))
                (lt_or_ge p (r w))

    -- **and after it region p draws in nothing more.**
    pub attracted_settled : SettledAt g X r' p
    attracted_settled =
        closed_cong
        (up_to X r p)
        (up_to X r' p)
        R
        (at_region X r' p)
        (λ v.
        bool_ext
        (up_to X r p v)
        (up_to X r' p v)
        (λ i.
        up_intro X r' p v (up_in X r p v i)
        (⊎_elim
        (λ m. le_of_eq (gained v m))
        (λ m. rw (rest v (up_in X r p v i) m) (up_le X r p v i))
        (bool_cases (R v))))
        (λ i. up_intro X r p v (up_in X r' p v i) (le_trans (never_lower v (up_in X r' p v i)) (up_le X r' p v i))))
        gained_is
        (record { target = λ v m. m; attracted = cert.closed.attracted })

-- going down

-- **Where region p draws in nothing more, p may go down to the next region.**
pub placed_lower :
    {g : Game} {X : Set} {r : ℕ → ℕ} {p : ℕ} (p' : ℕ) →
    Placed g X r p →
    SettledAt g X r p →
    p' < p →
    (u : ℕ) →
    X u ≡ true →
    r u ≡ p' →
    ((v : ℕ) → X v ≡ true → r v < p → r v ≤ p') →
    Placed g X r p'
placed_lower {g} {X} {r} {p} p' placed here less u inX is next =
    record {
      below = placed.below;
      total = placed.total;
      present = λ v i. (u, inX, is);
      high = placed.high;
      fresh = λ v i l. placed.fresh v i (omega arith);
      upward = placed.upward;
      settled = λ q l. ⊎_elim (λ above. placed.settled q above) (λ near. between q l near) (lt_or_ge p q);
    }
  where
    between : (q : ℕ) → p' < q → q ≤ p → SettledAt g X r q
    between q l near =
        ⊎_elim
        (λ same. rw same here)
        (λ under. settled_empty X r q (λ v i e. let k = next v i (omega arith) in omega arith))
        (eq-or-lt_of_le near)

-- promoting

-- an opponent's vertex of region p has an edge to region q above, none to a region below p and none to one between
pub record Promotes (g : Game) (X : Set) (r : ℕ → ℕ) (p q : ℕ) : Type 0 where
  pub above : p < q
  pub from : ℕ
  pub to : ℕ
  pub from_in : X from ≡ true
  pub from_is : r from ≡ p
  pub from_theirs : g.owner from ≡ parity p → ⊥
  pub edge : Edge g from to
  pub to_in : X to ≡ true
  pub to_is : r to ≡ q
  pub others :
      (v w : ℕ) →
      X v ≡ true →
      r v ≡ p →
      (g.owner v ≡ parity p → ⊥) →
      Edge g v w →
      X w ≡ true →
      (r w ≡ p) ⊎ (q ≤ r w)

-- **The region that is promoted to has p's player**: else the vertex with the edge into it would have been drawn in.
pub promoted_player :
    {g : Game} {X : Set} {r : ℕ → ℕ} {p q : ℕ} → Placed g X r p → Promotes g X r p q → parity q ≡ parity p
promoted_player {g} {X} {r} {p} {q} placed up =
    ⊎_elim
    (λ e. e)
    (λ e.
    let v = up.from in
    let v_is = up.from_is in
    let l = up.above in
    let o = other_player (parity p) (g.owner v) up.from_theirs ∙ sym e in
    absurd
    (clash
    (at_intro X r q up.to up.to_in up.to_is)
    (own_stays_out (placed.settled q l) v up.to
    (up_intro X r q v up.from_in (omega arith))
    (at_out X r q v (λ i k. omega arith))
    o
    up.edge)))
    (player_cases (parity p) (parity q))

-- a promotion by vertex: it was in region p and goes to q, or in another below q and goes back to its priority, or it stays
pub data Moved (g : Game) (r r' : ℕ → ℕ) (p q v : ℕ) : Type 0 where
  lifted : r v ≡ p → r' v ≡ q → Moved g r r' p q v
  reset : (r v ≡ p → ⊥) → r v < q → r' v ≡ g.priority v → Moved g r r' p q v
  stayed : q ≤ r v → r' v ≡ r v → Moved g r r' p q v

module _
    {g : Game}
    {X : Set}
    {r : ℕ → ℕ}
    {p q : ℕ}
    (placed : Placed g X r p)
    (up : Promotes g X r p q)
    (r' : ℕ → ℕ)
    (moved : (v : ℕ) → X v ≡ true → Moved g r r' p q v)
  where
    l : p < q
    l = up.above

    pub stays_upper : (v : ℕ) → X v ≡ true → q ≤ r v → r' v ≡ r v
    stays_upper v i k = go (moved v i)
      where
        go : Moved g r r' p q v → r' v ≡ r v
        go (lifted was is) = let less = l in absurd (omega arith)
        go (reset differs less is) = absurd (omega arith)
        go (stayed high is) = is

    pub goes_up : (v : ℕ) → X v ≡ true → r v ≡ p → r' v ≡ q
    goes_up v i e = go (moved v i)
      where
        go : Moved g r r' p q v → r' v ≡ q
        go (lifted was is) = is
        go (reset differs less is) = absurd (differs e)
        go (stayed high is) = let less = l in absurd (omega arith)

    -- what a promotion does to one vertex, by cases
    high_moved : (v : ℕ) → g.priority v ≤ r v → Moved g r r' p q v → g.priority v ≤ r' v
    high_moved v h (lifted was is) = let less = l in omega arith
    high_moved v h (reset differs less is) = omega arith
    high_moved v h (stayed high is) = omega arith

    fresh_moved : (v : ℕ) → r' v < q → Moved g r r' p q v → r' v ≡ g.priority v
    fresh_moved v h (lifted was is) = absurd (omega arith)
    fresh_moved v h (reset differs less is) = is
    fresh_moved v h (stayed high is) = absurd (omega arith)

    up_moved : (q' v : ℕ) → q < q' → g.priority v ≤ r v → Moved g r r' p q v → (r v ≤ q' → r' v ≤ q') × (r' v ≤ q' → r v ≤ q')
    up_moved q' v k h (lifted was is) = let less = l in omega arith
    up_moved q' v k h (reset differs less is) = omega arith
    up_moved q' v k h (stayed high is) = omega arith

    at_moved : (q' v : ℕ) → q < q' → g.priority v ≤ r v → Moved g r r' p q v → (r v ≡ q' → r' v ≡ q') × (r' v ≡ q' → r v ≡ q')
    at_moved q' v k h (lifted was is) = let less = l in omega arith
    at_moved q' v k h (reset differs less is) = omega arith
    at_moved q' v k h (stayed high is) = omega arith

    upward_moved :
        (v w : ℕ) →
        X v ≡ true →
        (g.owner v ≡ parity (r' v) → ⊥) →
        g.priority v < r' v →
        Edge g v w →
        X w ≡ true →
        Moved g r r' p q v →
        r' v ≤ r' w
    upward_moved v w i o k e j (lifted was is) =
        ⊎_elim
        (λ same. le_of_eq (is ∙ sym (goes_up w j same)))
        (λ higher. let next = stays_upper w j higher in omega arith)
        (up.others v w i was (λ mine. o (mine ∙ sym (promoted_player placed up) ∙ ap parity (sym is))) e j)
    upward_moved v w i o k e j (reset differs less is) = absurd (omega arith)
    upward_moved v w i o k e j (stayed high is) =
        let more = placed.upward v w i (λ mine. o (mine ∙ ap parity (sym is))) (rw is at k) e j in
        let next = stays_upper w j (omega arith) in omega arith

    -- **A promotion keeps where the regions stand.**
    pub placed_promoted : Placed g X r' q
    placed_promoted =
        record {
          below = placed.below;
          total = placed.total;
          present =
              λ v i. (up.to, up.to_in, stays_upper up.to up.to_in (le_of_eq (sym up.to_is)) ∙ up.to_is);
          high = λ v i. high_moved v (placed.high v i) (moved v i);
          fresh = λ v i k. fresh_moved v k (moved v i);
          upward = λ v w i o k e j. upward_moved v w i o k e j (moved v i);
          settled =
              λ q' k.
              let less = l in
              settled_cong X r r' q'
              (λ v i. (up_moved q' v k (placed.high v i) (moved v i)).0)
              (λ v i. (up_moved q' v k (placed.high v i) (moved v i)).1)
              (λ v i. (at_moved q' v k (placed.high v i) (moved v i)).0)
              (λ v i. (at_moved q' v k (placed.high v i) (moved v i)).1)
              (placed.settled q' (omega arith));
        }
