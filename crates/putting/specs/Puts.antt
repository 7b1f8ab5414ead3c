-- Bytes put from a place on: what is before them and behind them stays. Pieces put one after another are their bytes joined.
use Rattle.std.specs.Prelude.{List, [], ◌∷◌, ◌++◌, ◌≡◌, refl, ℕ, suc, ◌+◌, ◌-◌, ◌≤◌, ◌<◌, length, take, drop, set, get_or}
use Rattle.std.proofs.Common.{append_assoc, append-nil, sym, ap, subst, ◌∙◌, add-zero, add-one, arith, length-append, length-set, length-take, take-suc-set, drop-set-lt, drop-drop, take-suc, take_all}

-- there is room for the bytes
abbrev pub Fits : ℕ → List ℕ → List ℕ → Type 0
Fits at bytes out = at + length bytes ≤ length out

pub record Puts (at : ℕ) (bytes before after : List ℕ) (next : ℕ) : Type 0 where
  pub place : next ≡ at + length bytes
  pub front : take next after ≡ take at before ++ bytes
  pub rest : drop next after ≡ drop next before
  pub long : length after ≡ length before

-- nothing is put yet
pub puts_none : (at : ℕ) (out : List ℕ) → Puts at [] out out at
puts_none at out = record { place = sym (add-zero at); front = sym (append-nil (take at out)); rest = refl; long = refl }

-- behind a later place too all stays
rest_later :
    (r s : ℕ) (before after : List ℕ) → r ≤ s → drop r after ≡ drop r before → drop s after ≡ drop s before
rest_later r s before after later stays =
    let sum : r + (s - r) ≡ s = omega arith in
    subst (λ (k : ℕ). drop k after ≡ drop k before) sum
    (sym (drop-drop (s - r) r after) ∙ ap (λ (l : List ℕ). drop (s - r) l) stays ∙ drop-drop (s - r) r before)

-- one byte more
pub puts_byte :
    {at r : ℕ} {bytes before after : List ℕ} (b : ℕ) →
    Puts at bytes before after r →
    r < length after →
    Puts at (bytes ++ (b ∷ [])) before (set after r b) (suc r)
puts_byte {at} {r} {bytes} {before} {after} b p room =
    record {
      place = ap suc p.place ∙ omega (arith, length-append bytes (b ∷ []));
      front =
          take-suc-set after r b room ∙
          ap (λ (l : List ℕ). l ++ (b ∷ [])) p.front ∙
          append_assoc (take at before) bytes (b ∷ []);
      rest =
          drop-set-lt (suc r) after r b (omega arith) ∙ rest_later r (suc r) before after (omega arith) p.rest;
      long = length-set after r b ∙ p.long;
    }

-- two pieces
pub puts_both :
    {at r s : ℕ} {a b before between after : List ℕ} →
    Puts at a before between r →
    Puts r b between after s →
    Puts at (a ++ b) before after s
puts_both {at} {r} {s} {a} {b} {before} {between} {after} p q =
    record {
      place = omega (arith, p.place, q.place, length-append a b);
      front = q.front ∙ ap (λ (l : List ℕ). l ++ b) p.front ∙ append_assoc (take at before) a b;
      rest = q.rest ∙ rest_later r s before between (omega (arith, q.place)) p.rest;
      long = q.long ∙ p.long;
    }

-- a piece from the beginning on is what the array begins with
pub puts_front : {r : ℕ} {bytes before after : List ℕ} → Puts 0 bytes before after r → take r after ≡ bytes
puts_front p = p.front

-- and is within it
pub puts_within : {r : ℕ} {bytes before after : List ℕ} → Puts 0 bytes before after r → r ≤ length after
puts_within {r} {bytes} {before} {after} p =
    omega (arith, p.place, simp length-take at (ap length p.front))

-- ---- a piece put entry by entry

-- so many entries of a piece are put, which has room
pub record Putting (at i : ℕ) (bytes before after : List ℕ) : Type 0 where
  pub room : Fits at bytes before
  pub some : i ≤ length bytes
  pub puts : Puts at (take i bytes) before after (at + i)

pub putting_none : (at : ℕ) (bytes out : List ℕ) → Fits at bytes out → Putting at 0 bytes out out
putting_none at bytes out room =
    record {
      room = room;
      some = omega arith;
      puts = subst (λ (k : ℕ). Puts at [] out out k) (sym (add-zero at)) (puts_none at out);
    }

-- one entry more
pub putting_more :
    {at i : ℕ} {bytes before after : List ℕ} (b : ℕ) →
    Putting at i bytes before after →
    i < length bytes →
    b ≡ get_or bytes i 0 →
    Putting at (i + 1) bytes before (set after (at + i) b)
putting_more {at} {i} {bytes} {before} {after} b p less is =
    record {
      room = p.room;
      some = omega arith;
      puts =
          let place : suc (at + i) ≡ at + (i + 1) = omega arith in
          let grown : take i bytes ++ (b ∷ []) ≡ take (i + 1) bytes =
          ap (λ (x : ℕ). take i bytes ++ (x ∷ [])) is ∙ sym (take-suc bytes i 0 less) ∙
          ap (λ (k : ℕ). take k bytes) (sym (add-one i)) in
          subst (λ (k : ℕ). Puts at (take (i + 1) bytes) before (set after (at + i) b) k) place
          (subst (λ (s : List ℕ). Puts at s before (set after (at + i) b) (suc (at + i))) grown
          (puts_byte b p.puts (omega (arith, p.room, p.puts.long))));
    }

-- all entries
pub putting_all :
    {at i : ℕ} {bytes before after : List ℕ} →
    Putting at i bytes before after →
    length bytes ≤ i →
    Puts at bytes before after (at + length bytes)
putting_all {at} {i} {bytes} {before} {after} p all =
    let ended : i ≡ length bytes = omega (arith, p.some) in
    subst (λ (k : ℕ). Puts at bytes before after (at + k)) ended
    (subst (λ (s : List ℕ). Puts at s before after (at + i)) (take_all i bytes all) p.puts)
