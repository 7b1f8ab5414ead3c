-- The way from a vertex, as a row of n words shows it: a word is the next vertex plus 1, and n + 1 where the way ends. And the
-- vertices of the way written one after another.
use Rattle.std.specs.Prelude.{List, [], ◌∷◌, ◌++◌, ◌≡◌, refl, ℕ, suc, ◌+◌, ◌-◌, ◌≤◌, ◌<◌, length, get_or, drop, set}
use Rattle.std.proofs.Common.{append_assoc, sym, ap, ◌∙◌, arith, length-append, length-drop, drop-cons}
use Rattle.std.proofs.lemmas.List.{set_at}
use Rattle.rules.specs.Loop.{Path, alone, next}
use Rattle.rules.specs.Mending.{overwritten}

-- x's word says y
pub record FollowsOnward (n row : ℕ) (work : List ℕ) (x y : ℕ) : Type 0 where
  pub start : x < n
  pub end : y < n
  pub word : get_or work (row + x) 0 ≡ y + 1

-- the way from x, and that it ends
pub record Way (n row : ℕ) (work : List ℕ) (x : ℕ) (vs : List ℕ) : Type 0 where
  pub last : ℕ
  pub path : Path (FollowsOnward n row work) x last vs
  pub vertex : last < n
  pub ends : get_or work (row + last) 0 ≡ n + 1

pub record Followable (n row : ℕ) (work : List ℕ) (x : ℕ) (list : List ℕ) : Type 0 where
  pub vs : List ℕ
  pub way : Way n row work x vs
  pub fits : length vs ≤ length list
  pub room : row + n ≤ length work
  pub few : n ≤ 4096

abbrev pub Followed : ℕ → ℕ → List ℕ → ℕ → List ℕ → List ℕ → ℕ → Type 0
Followed n row work x before after k =
    (vs : List ℕ) → Way n row work x vs → length vs ≤ length before → (after ≡ overwritten vs before) × (k ≡ length vs)

-- k vertices of the way are written, and v is the next
pub record Following (n row : ℕ) (work : List ℕ) (vs before after : List ℕ) (k v : ℕ) : Type 0 where
  pub done : List ℕ
  pub rest : List ℕ
  pub whole : vs ≡ done ++ rest
  pub way : Way n row work v rest
  pub written : after ≡ overwritten done before
  pub place : k ≡ length done

-- one vertex more at the front of a list
overwritten_more :
    (ys before : List ℕ) (x : ℕ) → length ys < length before →
    set (overwritten ys before) (length ys) x ≡ overwritten (ys ++ (x ∷ [])) before
overwritten_more ys before x fits =
    let longer : length (ys ++ (x ∷ [])) ≡ suc (length ys) = rw (length-append ys (x ∷ [])) (omega arith) in
    rw (drop-cons before (length ys) 0 fits, longer)
    (set_at ys (get_or before (length ys) 0) (drop (suc (length ys)) before) x (length ys) refl ∙
    sym (append_assoc ys (x ∷ []) (drop (suc (length ys)) before)))

pub overwritten_length : (ys before : List ℕ) → length ys ≤ length before → length (overwritten ys before) ≡ length before
overwritten_length ys before fits = rw (length-append ys (drop (length ys) before), length-drop) (omega arith)

module _ {n row : ℕ} {work : List ℕ} where
  path_start : {x y : ℕ} {vs : List ℕ} → Path (FollowsOnward n row work) x y vs → y < n → x < n
  path_start alone l = l
  path_start (next e r) l = e.start

  path_some : {x y : ℕ} {vs : List ℕ} → Path (FollowsOnward n row work) x y vs → 0 < length vs
  path_some alone = omega arith
  path_some (next e r) = omega arith

  -- a way begins at a vertex, and has one
  pub way_vertex : {x : ℕ} {vs : List ℕ} → Way n row work x vs → x < n
  way_vertex w = path_start w.path w.vertex

  -- where the first word is n + 1 there is no other
  path_stops :
      {x y : ℕ} {vs : List ℕ} → Path (FollowsOnward n row work) x y vs → get_or work (row + x) 0 ≡ n + 1 → vs ≡ x ∷ []
  path_stops alone stop = refl
  path_stops (next e r) stop = absurd (omega (arith, e.word, e.end))

  -- and where it is not, there is a next
  path_goes :
      {x y : ℕ} {vs : List ℕ} → Path (FollowsOnward n row work) x y vs → y < n → get_or work (row + y) 0 ≡ n + 1 →
      (get_or work (row + x) 0 ≡ n + 1 → ⊥) →
      (rest : List ℕ) × (vs ≡ x ∷ rest) × Way n row work (get_or work (row + x) 0 - 1) rest × (0 < get_or work (row + x) 0)
  path_goes alone l stop goes = absurd (goes stop)
  path_goes {y = y} (next {v} {w} {vs} e r) l stop goes =
      let is : get_or work (row + v) 0 - 1 ≡ w = omega (arith, e.word) in
      (vs, refl, rw is (record { last = y; path = r; vertex = l; ends = stop }), omega (arith, e.word))

  module _ {vs before after : List ℕ} {k v : ℕ} (f : Following n row work vs before after k v)
      (fits : length vs ≤ length before) where
    -- there is room for one more
    pub follow_room : (k < length before) × (length after ≡ length before)
    follow_room =
        let some = path_some f.way.path in
        let sum = ap length f.whole ∙ length-append f.done f.rest in
        (omega (arith, f.place), rw f.written (overwritten_length f.done before (omega arith)))

    wrote : set after k v ≡ overwritten (f.done ++ (v ∷ [])) before
    wrote =
        let room = follow_room.0 in
        rw (f.written, f.place) (overwritten_more f.done before v (rw f.place at room))

    -- the word of v is no 0
    pub follow_word : (get_or work (row + v) 0 ≡ n + 1 → ⊥) → 0 < get_or work (row + v) 0
    follow_word goes = let (rest, is, way, some) = path_goes f.way.path f.way.vertex f.way.ends goes in some

    pub follow_on :
        (get_or work (row + v) 0 ≡ n + 1 → ⊥) → Following n row work vs before (set after k v) (k + 1) (get_or work (row + v) 0 - 1)
    follow_on goes =
        let (rest, is, way, some) = path_goes f.way.path f.way.vertex f.way.ends goes in
        record {
          done = f.done ++ (v ∷ []);
          rest = rest;
          whole = f.whole ∙ ap (λ (xs : List ℕ). f.done ++ xs) is ∙ sym (append_assoc f.done (v ∷ []) rest);
          way = way;
          written = wrote;
          place = rw (length-append f.done (v ∷ [])) (omega (arith, f.place));
        }

    pub follow_end : get_or work (row + v) 0 ≡ n + 1 → (set after k v ≡ overwritten vs before) × (k + 1 ≡ length vs)
    follow_end stop =
        let is = f.whole ∙ ap (λ (xs : List ℕ). f.done ++ xs) (path_stops f.way.path stop) in (
          wrote ∙ ap (λ (xs : List ℕ). overwritten xs before) (sym is),
          omega (arith, f.place, ap length is ∙ length-append f.done (v ∷ [])),
        )

pub follow_starts :
    (n row : ℕ) (work : List ℕ) (x : ℕ) (before vs : List ℕ) → Way n row work x vs → Following n row work vs before before 0 x
follow_starts n row work x before vs w =
    record { done = []; rest = vs; whole = refl; way = w; written = refl; place = refl }
