-- The attractor's certificate: a rank that sinks along the entries at own vertices and along every inside edge elsewhere, down to T.
-- The rules' attractor has one; a set that has one is the attractor; cycles in it meet T, and no walk of n steps avoids T.
use Rattle.std.specs.Prelude.{true, false, List, ◌⊎◌, ◌≡◌, refl, ℕ, zero, suc, ◌≤◌, ◌<◌}
use Rattle.std.proofs.Common.{⊎_elim, ap, sym, ◌∙◌, le_refl, le_of_lt, not-suc-le-zero, arith}
use Rattle.std.proofs.Math.Logic.{by_cases}
use Rattle.std.proofs.Math.Path.{fun_ext, subst₃}
use Rattle.rules.specs.Counting.{Set}
use Rattle.rules.specs.Game.{Player, Game, Edge}
use Rattle.rules.specs.Words.{no_entry, entry}
use Rattle.rules.specs.Distance.{distance}
use Rattle.rules.specs.Attractor.{Closed, IsAttractor, attractor}
use Rattle.theory.specs.Arriving.{Avoids, still, own, other, AttractorEntries}
use Rattle.basics.specs.Basics.{bool_cases}
use Rattle.theory.specs.Players.{player_decided}
use Rattle.theory.specs.Attractor.{by_own, by_other, drawn_so, draws_all, draws_one, Fits}
use Rattle.theory.specs.Attractor.{attractor_is, attractor_inside}
use Rattle.theory.specs.Distance.{grown_near, distance_low, distance_target, distance_draws, nearest, nearest_sinks}

-- S is the attractor of T in V', shown by ranks: T has rank 0, an own vertex outside T has an entry to a lower rank, and from
-- another's vertex outside T there is an inside edge, and every inside edge leads to a lower rank
pub record Ranked (g : Game) (a : Player) (V' T S : Set) : Type 0 where
  pub rank : ℕ → ℕ
  -- the entry of an own vertex
  pub pull : ℕ → ℕ
  pub closed : Closed g a V' T S
  pub inside : (v : ℕ) → S v ≡ true → V' v ≡ true
  pub low : (v : ℕ) → S v ≡ true → rank v ≤ g.size
  pub start : (v : ℕ) → T v ≡ true → rank v ≡ 0
  pub pulled :
      (v : ℕ) →
      S v ≡ true →
      T v ≡ false →
      g.owner v ≡ a →
      Edge g v (pull v) × (S (pull v) ≡ true) × (rank (pull v) < rank v)
  pub pushed :
      (v : ℕ) →
      S v ≡ true →
      T v ≡ false →
      (g.owner v ≡ a → ⊥) →
      (w : ℕ) →
      Edge g v w →
      V' w ≡ true →
      (S w ≡ true) × (rank w < rank v)
  pub leads : (v : ℕ) → S v ≡ true → T v ≡ false → (g.owner v ≡ a → ⊥) → (w : ℕ) × Edge g v w × (V' w ≡ true)

-- **the rules' attractor has a certificate**: distances, and the lowest-numbered successor that is nearer
pub attractor_certificate : (g : Game) (a : Player) (V' T : Set) → Fits g V' T → Ranked g a V' T (attractor g a V' T)
attractor_certificate g a V' T fits =
    record {
      rank = distance g a V' T;
      pull = nearest g a V' T;
      closed = (attractor_is g a V' T fits).closed;
      inside = attractor_inside g a V' T fits;
      low = λ v p. le_of_lt (distance_low g a V' T fits v p);
      start = distance_target g a V' T fits;
      pulled = nearest_sinks g a V' T fits;
      pushed =
          λ v p t o w m i.
          let (k, e, d) = distance_draws g a V' T fits v p t in
          let (s, near) = grown_near g a V' T fits k w (draws_all o d w m i) in
          (s, omega arith);
      leads = λ v p t o. let (k, e, d) = distance_draws g a V' T fits v p t in draws_one o d;
    }

pub attractor_pull :
    (g : Game) (a : Player) (V' T : Set) (fits : Fits g V' T) (v : ℕ) →
    (attractor_certificate g a V' T fits).pull v ≡ nearest g a V' T v
unfolding attractor_certificate
attractor_pull g a V' T fits v = refl

-- a certificate depends on the sets by their members alone, and keeps its entries
unfoldable pub certificate_cong :
    {g : Game} {a : Player} {V₁ V₂ T₁ T₂ S₁ S₂ : Set} →
    ((v : ℕ) → V₁ v ≡ V₂ v) →
    ((v : ℕ) → T₁ v ≡ T₂ v) →
    ((v : ℕ) → S₁ v ≡ S₂ v) →
    Ranked g a V₁ T₁ S₁ →
    Ranked g a V₂ T₂ S₂
certificate_cong {g} {a} {V₁} {V₂} {T₁} {T₂} {S₁} {S₂} sameV same_t sameS cert =
    record {
      rank = cert.rank;
      pull = cert.pull;
      closed =
          subst₃ (λ (V' T S : Set). Closed g a V' T S) (fun_ext sameV) (fun_ext same_t) (fun_ext sameS) cert.closed;
      inside = λ v m. sym (sameV v) ∙ cert.inside v (sameS v ∙ m);
      low = λ v m. cert.low v (sameS v ∙ m);
      start = λ v m. cert.start v (same_t v ∙ m);
      pulled =
          λ v m out o.
          let (e, k, less) = cert.pulled v (sameS v ∙ m) (same_t v ∙ out) o in (e, sym (sameS (cert.pull v)) ∙ k, less);
      pushed =
          λ v m out o w e i.
          let (k, less) = cert.pushed v (sameS v ∙ m) (same_t v ∙ out) o w e (sameV w ∙ i) in (sym (sameS w) ∙ k, less);
      leads =
          λ v m out o.
          let (w, e, i) = cert.leads v (sameS v ∙ m) (same_t v ∙ out) o in (w, e, sym (sameV w) ∙ i);
    }

-- so has every set with the members of the attractor
pub same_certificate :
    (g : Game) (a : Player) (V' T S : Set) →
    Fits g V' T →
    ((v : ℕ) → attractor g a V' T v ≡ S v) →
    Ranked g a V' T S
same_certificate g a V' T S fits is = certificate_cong (λ v. refl) (λ v. refl) is (attractor_certificate g a V' T fits)

pub same_pull :
    (g : Game) (a : Player) (V' T S : Set) (fits : Fits g V' T) (is : (v : ℕ) → attractor g a V' T v ≡ S v) (v : ℕ) →
    (same_certificate g a V' T S fits is).pull v ≡ nearest g a V' T v
unfolding same_certificate certificate_cong
same_pull g a V' T S fits is v = attractor_pull g a V' T fits v

module _ {g : Game} {a : Player} {V' T S : Set} (c : Ranked g a V' T S) where
  -- a member outside T has a rank above 0
  pub rank_pos : (v : ℕ) → S v ≡ true → T v ≡ false → 0 < c.rank v
  rank_pos v p t =
      by_cases
      (player_decided (g.owner v) a)
      (λ o. let less = (c.pulled v p t o).2 in omega arith)
      (λ o. let (w, e, i) = c.leads v p t o in let less = (c.pushed v p t o w e i).1 in omega arith)

  -- a member lies in a closed set when the members of lower rank do
  climbs :
      (S' : Set) →
      Closed g a V' T S' →
      (v : ℕ) →
      S v ≡ true →
      ((w : ℕ) → S w ≡ true → c.rank w < c.rank v → S' w ≡ true) →
      S' v ≡ true
  climbs S' is v p lower = ⊎_elim (is.target v) outside (bool_cases (T v))
    where
      outside : T v ≡ false → S' v ≡ true
      outside t =
          is.attracted v
          (drawn_so v
          (by_cases
          (player_decided (g.owner v) a)
          (λ o. let (e, s, r) = c.pulled v p t o in by_own (c.inside v p) o e (lower _ s r))
          (λ o.
          let (w, e, i) = c.leads v p t o in
          by_other (c.inside v p) o e i (λ u d j. let (s, r) = c.pushed v p t o u d j in lower u s r))))

  climbs_all : (S' : Set) → Closed g a V' T S' → (k v : ℕ) → c.rank v < k → S v ≡ true → S' v ≡ true
  climbs_all S' is zero v l p = absurd (not-suc-le-zero l)
  climbs_all S' is (suc k) v l p = climbs S' is v p (λ w s r. climbs_all S' is k w (omega arith) s)

  -- **a set with a certificate is the attractor**
  pub certificate_is : IsAttractor g a V' T S
  certificate_is =
      record { closed = c.closed; smallest = λ S' is v p. climbs_all S' is (suc (c.rank v)) v (le_refl (suc (c.rank v))) p }

module _ {g : Game} {a : Player} {V' T S : Set} (c : Ranked g a V' T S) where
  module _ (strategy : List ℕ) (follows : (v : ℕ) → S v ≡ true → T v ≡ false → g.owner v ≡ a → entry strategy v ≡ c.pull v) where
    -- a walk that goes by the entries and avoids T is shorter than the rank of the member that it starts at
    pub avoids_short : {k v : ℕ} → S v ≡ true → Avoids g a V' T strategy k v → k < c.rank v
    avoids_short {v} p (still t) = rank_pos c v p t
    avoids_short {v} p (own {k} t o rest) =
        let (e, s, r) = c.pulled v p t o in
        let l = avoids_short (rw (follows v p t o) s) rest in
        let same = ap c.rank (follows v p t o) in
        omega arith
    avoids_short {v} p (other {w} {k} t o e i rest) =
        let (s, r) = c.pushed v p t o w e i in let l = avoids_short s rest in omega arith

    -- **no walk of n steps from a member avoids T**
    pub none_avoids : (v : ℕ) → S v ≡ true → Avoids g a V' T strategy g.size v → ⊥
    none_avoids v p walk = let l = avoids_short p walk in let r = c.low v p in omega arith

    -- **a list of the certificate's entries is as the rules ask**
    pub certificate_entries :
        ((v : ℕ) → v < g.size → (S v ≡ true → T v ≡ false → g.owner v ≡ a → ⊥) → entry strategy v ≡ no_entry) →
        AttractorEntries g a V' T S strategy
    certificate_entries absent =
        record {
          given = λ v l p t o. let (e, s, r) = c.pulled v p t o in rw (follows v p t o) (e, s);
          absent = absent;
          arrives = λ v l p. none_avoids v p;
        }
