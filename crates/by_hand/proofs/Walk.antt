-- Steps of a walk of MIR by hand, beside those of the library's calculus.
--     Places, env      where a function's locals lie, and its environment
--     cells            the locals in memory, the last one first, each with its value or empty; past its end empty
--     begins, leaves   all locals are allocated, empty; all are freed, whatever they hold
--     apart            the conjunction at the head, taken apart n times
--     knowing          what holds, with a fact beside it, as a contract asks for it
--     arg, _&_, sets   a local as an operand; operands one after another; a local is assigned
--     while-test       the test of a `while`: the turn goes on, or the loop is left
--     if-test          an `if` without an else: its body runs, or what follows it
use mathlib.Core.Bool.{Bool, not}
use mathlib.Core.List.{List, [], ◌∷◌, ◌++◌}
use mathlib.Core.Option.{Option, none, some}
use mathlib.Core.Path.{◌≡◌}
use Prim.Native.Nat.{ℕ, zero, suc}
use lib.Dec.{T as Holds}
use seplogic.Ra.Ura.{Ura}
use base.Fraction.{full_share}
use mir.Syntax.{Ty, Local, local, Rv as Right, Opd as Operand, Body as Code, place, copy, assign, seq, skip, cond, exit}
use mir.Val.{Val, vbool}
use base.Logic.{SProp, ent, sep, id⊢, via, mono_l, mono_r, assoc∗, assoc', comm∗}
use base.Fml.{Fml, Share, fat, froom, fdies}
use prog.Machine.{ty_of}
use prog.Wp.{Env, Calls, Loops, Wp, after_seq, exits, release, spot_of, eval_opds}
use types.Logic.{Logic, sem}
use contract.Monad.{fact}
use types.Kit.{Item, ‵, raw, ◌⊛◌, some as any, given, later, mean, ⋆, nth, push, pop, Post, post, any_q, prop, Goal, runs, allocs, frees, Seq, Step, step, cut, ◌$◌, ◌∵◌, !, qed, done}
use types.Run.{Opd, Opds, Rv, Writes, look, load, from, stop, assigns, first, branches, skips, jumps, alloc1, alloc0}
use denote.Triple.Walked.{says}

-- a tuple, written without brackets
infixr 4 ◌▸◌
abbrev pub ◌▸◌ {α β} : {X : Type α} {Y : Type β} → X → Y → X × Y
x ▸ y = (x, y)

abbrev pub full : List Val → List (Option Val)
full [] = []
full (v ∷ vs) = some v ∷ full vs

abbrev pub Places : List Local → Type 0
Places [] = Unit {0}
Places (l ∷ ls) = ℕ × Places ls

abbrev pub env : (ls : List Local) → Places ls → List (Ty × ℕ)
env [] p = []
env (l ∷ ls) p = (ty_of l, p.0) ∷ env ls p.1

abbrev holds : Ty → ℕ → Option Val → Fml
holds τ l none = froom τ l 0
holds τ l (some v) = fat full_share τ l 0 v

abbrev top : List (Option Val) → Option Val
top [] = none
top (v ∷ vs) = v

abbrev below : List (Option Val) → List (Option Val)
below [] = []
below (v ∷ vs) = vs

-- the positions from a on, n of them, and then others
abbrev pub span : ℕ → ℕ → List ℕ → List ℕ
span a zero π = π
span a (suc n) π = a ∷ span (suc a) n π

module _ {M : Type 1} {𝓤 : Ura M} where
  abbrev pub cells : (ls : List Local) → Places ls → List (Option Val) → List (Item 𝓤) → List (Item 𝓤)
  cells [] p vs Γ = Γ
  cells (l ∷ ls) p vs Γ =
      cells ls p.1 (below vs) (‵ (holds (ty_of l) p.0 (top vs)) ∷ ‵ (fdies (ty_of l) p.0) ∷ Γ)

  abbrev pub parts : ℕ → Item 𝓤 → List (Item 𝓤)
  parts zero i = i ∷ []
  parts (suc n) (‵ P) = ‵ P ∷ []
  parts (suc n) (raw P) = raw P ∷ []
  parts (suc n) (i ⊛ j) = i ∷ parts n j
  parts (suc n) (any F) = any F ∷ []
  parts (suc n) (given φ i) = given φ i ∷ []
  parts (suc n) (later i) = later i ∷ []

module _ {M : Type 1} {𝓤 : Ura M} (𝓛 : Logic 𝓤) where
  open 𝓛 use {H}

  parts⊢ : (n : ℕ) (i : Item 𝓤) → ent 𝓤 (mean 𝓛 i) (⋆ 𝓛 (parts n i))
  parts⊢ zero i = id⊢ 𝓤 (mean 𝓛 i)
  parts⊢ (suc n) (‵ P) = id⊢ 𝓤 (sem 𝓛 P)
  parts⊢ (suc n) (raw P) = id⊢ 𝓤 P
  parts⊢ (suc n) (i ⊛ j) =
      via 𝓤 (sep 𝓤 (mean 𝓛 i) (⋆ 𝓛 (parts n j))) (mono_r 𝓤 (mean 𝓛 i) (parts⊢ n j))
      (push 𝓛 i (parts n j))
  parts⊢ (suc n) (any F) = id⊢ 𝓤 (mean 𝓛 (any F))
  parts⊢ (suc n) (given φ j) = id⊢ 𝓤 (mean 𝓛 (given φ j))
  parts⊢ (suc n) (later j) = id⊢ 𝓤 (mean 𝓛 (later j))

  -- what a release leaves alone may stand before it
  release_out : (E : List (Ty × ℕ)) (X P : SProp 𝓤) → ent 𝓤 (release 𝓤 H E (sep 𝓤 X P)) (sep 𝓤 X (release 𝓤 H E P))
  release_out [] X P = id⊢ 𝓤 (sep 𝓤 X P)
  release_out (e ∷ E) X P =
      let Y : SProp 𝓤 = sep 𝓤 (H.room e.0 e.1 0) (H.dies e.0 e.1) in
      let Z : SProp 𝓤 = release 𝓤 H E P in
      via 𝓤 (sep 𝓤 Y (sep 𝓤 X Z)) (mono_r 𝓤 Y (release_out E X P))
      (via 𝓤 (sep 𝓤 (sep 𝓤 Y X) Z) (assoc' 𝓤 Y X Z)
      (via 𝓤 (sep 𝓤 (sep 𝓤 X Y) Z) (mono_l 𝓤 Z (comm∗ 𝓤 Y X)) (assoc∗ 𝓤 X Y Z)))

  module _ where
    emptied : (τ : Ty) (l : ℕ) (v : Option Val) → ent 𝓤 (sem 𝓛 (holds τ l v)) (H.room τ l 0)
    emptied τ l none = id⊢ 𝓤 (H.room τ l 0)
    emptied τ l (some v) = 𝓛.laws.at_room τ l 0 v

    leaves⊢ : (ls : List Local) (p : Places ls) (vs : List (Option Val)) (Γ : List (Item 𝓤)) (P : SProp 𝓤)
        → ent 𝓤 (⋆ 𝓛 Γ) P → ent 𝓤 (⋆ 𝓛 (cells ls p vs Γ)) (release 𝓤 H (env ls p) P)
    leaves⊢ [] p vs Γ P s = s
    leaves⊢ (l ∷ ls) p vs Γ P s =
        let X : SProp 𝓤 = H.room (ty_of l) p.0 0 in
        let Y : SProp 𝓤 = H.dies (ty_of l) p.0 in
        let d : Item 𝓤 = ‵ (fdies (ty_of l) p.0) in
        let Δ : SProp 𝓤 = ⋆ 𝓛 (d ∷ Γ) in
        via 𝓤 (release 𝓤 H (env ls p.1) (sep 𝓤 (sep 𝓤 X Y) P))
        (leaves⊢ ls p.1 (below vs) (‵ (holds (ty_of l) p.0 (top vs)) ∷ d ∷ Γ) (sep 𝓤 (sep 𝓤 X Y) P)
        (via 𝓤 (sep 𝓤 X Δ) (mono_l 𝓤 Δ (emptied (ty_of l) p.0 (top vs)))
        (via 𝓤 (sep 𝓤 X (sep 𝓤 Y P)) (mono_r 𝓤 X (via 𝓤 (sep 𝓤 Y (⋆ 𝓛 Γ)) (pop 𝓛 d Γ) (mono_r 𝓤 Y s)))
        (assoc' 𝓤 X Y P))))
        (release_out (env ls p.1) (sep 𝓤 X Y) P)

    pub knowing : (P : SProp 𝓤) {φ : Type 0} → φ → ent 𝓤 P (sep 𝓤 P (fact 𝓤 φ))
    knowing P x = qed 𝓛 (raw P ∷ []) ∵ says ! x $ done !

module _ {M : Type 1} {𝓤 : Ura M} {𝓛 : Logic 𝓤} {K : Type 0} where
  open 𝓛 use {H}

  begins_at : K → (ls : List Local) (Γ : List (Item 𝓤)) (Kt : Env 𝓤 H → Goal 𝓤 H)
      → ((p : Places ls) → Seq K 𝓛 (cells ls p [] Γ) (Kt (env ls p))) → Seq K 𝓛 Γ (allocs ls Kt)
  begins_at k [] Γ Kt s = alloc0 k $ s tt
  begins_at k (local τ h ∷ ls) Γ Kt s =
      alloc1 k (λ b. begins_at k ls (‵ (froom τ b 0) ∷ ‵ (fdies τ b) ∷ Γ) (λ E. Kt ((τ, b) ∷ E)) (λ p. s (b, p)))

  pub begins : K → {ls : List Local} {Γ : List (Item 𝓤)} {Kt : Env 𝓤 H → Goal 𝓤 H}
      → ((p : Places ls) → Seq K 𝓛 (cells ls p [] Γ) (Kt (env ls p))) → Seq K 𝓛 Γ (allocs ls Kt)
  begins k {ls} {Γ} {Kt} s = begins_at k ls Γ Kt s

  pub leaves : K → (ls : List Local) (p : Places ls) (vs : List (Option Val)) {Γ : List (Item 𝓤)} {P : SProp 𝓤}
      → Step K 𝓛 Γ (prop P) (cells ls p vs Γ) (frees (env ls p) (prop P))
  leaves k ls p vs {Γ} {P} = step (λ s. record { prf = leaves⊢ 𝓛 ls p vs Γ P s.prf })

  module _ {Γ : List (Item 𝓤)} where
    pub apart : K → (n : ℕ) {i : Item 𝓤} {G : Goal 𝓤 H} → Step K 𝓛 (parts n i ++ Γ) G (i ∷ Γ) G
    apart k n {i} = cut (i ∷ []) (parts n i) Γ (parts⊢ 𝓛 n i)

    module _ {E : Env 𝓤 H} where
      pub arg : K → (n : ℕ) {x : ℕ} {q : Share} {v : Val}
          → nth 𝓛 n Γ ≡ ‵ (fat q (spot_of 𝓤 H E x).0 (spot_of 𝓤 H E x).1 0 v)
          → Opd K 𝓛 Γ E (copy (place x [])) v
      arg k n {x} {q} {v} e = load k (from k (stop k)) (look k n e)

      infixr 5 ◌&◌
      abbrev pub ◌&◌ : {x : Operand} {xs : List Operand} {v : Val} {vs : List Val}
          → Opd K 𝓛 Γ E x v → Opds K 𝓛 Γ E xs vs → Opds K 𝓛 Γ E (x ∷ xs) (v ∷ vs)
      ◌&◌ {x} {xs} {v} {vs} a b = record {
        go = λ Kt h. a.go (λ u. eval_opds 𝓤 H E xs (λ us. Kt (u ∷ us))) (b.go (λ us. Kt (v ∷ us)) h);
      }

      module _ {C : Calls 𝓤 H} {Λ : Loops 𝓤 H} {q : Post 𝓤 H} where
        pub sets : K → {x : ℕ} {r : Right} {rest : Code} {v : Val} {Γ' : List (Item 𝓤)} → Rv K 𝓛 Γ E r v
            → Writes K 𝓛 Γ (spot_of 𝓤 H E x).0 (spot_of 𝓤 H E x).1 0 v Γ'
            → Step K 𝓛 Γ' (runs C Λ E rest q) Γ (runs C Λ E (seq (assign (place x []) r) rest) q)
        sets k r w = assigns k r (from k (stop k)) w

        pub while_test : K → {c : Operand} {n : ℕ} {b : Code} {y : Bool} → Opd K 𝓛 Γ E c (vbool y)
            → (Holds y → Seq K 𝓛 Γ (runs C Λ E b q)) → (Holds (not y) → Seq K 𝓛 Γ (prop (post 𝓤 H q (exits n))))
            → Seq K 𝓛 Γ (runs C Λ E (seq (cond c skip (exit n)) b) q)
        while_test k x on off =
            first k $ branches k x (λ t. skips k $ record { prf = (on t).prf }) (λ f. jumps k $ off f)

        pub if_test : K → {c : Operand} {a b : Code} {y : Bool} → Opd K 𝓛 Γ E c (vbool y)
            → (Holds y → Seq K 𝓛 Γ (runs C Λ E a (any_q (after_seq 𝓤 H (Wp 𝓤 H C Λ E b (post 𝓤 H q)) (post 𝓤 H q)))))
            → (Holds (not y) → Seq K 𝓛 Γ (runs C Λ E b q)) → Seq K 𝓛 Γ (runs C Λ E (seq (cond c a skip) b) q)
        if_test k x on off = first k $ branches k x on (λ f. skips k $ record { prf = (off f).prf })
