-- V and the target were copied in and the predecessor table was built: all stand where the attractor looks for them.
use Rattle.std.specs.Prelude.{List, ◌≡◌, ℕ, ◌+◌, ◌-◌, ◌≤◌, length, get_or, take, drop}
use Rattle.std.proofs.Common.{sym, ap, ◌∙◌, arith, get_or-drop}
use Rattle.basics.specs.Frame.{Behind, Unchanged}
use Rattle.predecessors.specs.Table.{TableReady, Predecessors}
use Rattle.area.specs.Lent.{back, back_long, back_front, back_part, slice_alike}
use Rattle.attractor.specs.Attracted.{built_listed}
use Rattle.attractor_run.specs.Work.{SetsPreparable, SetsPrepared}

module _ (n : ℕ) (offsets targets within target work : List ℕ) (base : ℕ)
    (given : SetsPreparable n offsets targets within target work base)
    (first second : List ℕ) (is-first : first ≡ within) (is-second : second ≡ target)
  where
    abbrev m : ℕ
    m = length targets

    abbrev s : ℕ
    s = length within

    abbrev one : List ℕ
    one = back base s work first

    abbrev two : List ℕ
    two = back (base + s) s one second

    first_long : length first ≡ s
    first_long = ap length is-first

    second_long : length second ≡ s
    second_long = ap length is-second ∙ given.target_size ∙ sym given.within_size

    one_long : length one ≡ length work
    one_long = back_long base s work first (omega (arith, given.high)) first_long

    one_fits : base + s + s ≤ length one
    one_fits = omega (arith, given.high, one_long)

    pub two_long : length two ≡ length work
    two_long = back_long (base + s) s one second one_fits second_long ∙ one_long

    pub build_ready : TableReady n offsets targets two
    build_ready = record { edges = given.edges; room = omega (arith, given.low, given.high, two_long) }

    module _ (three : List ℕ) (built : Predecessors n offsets targets two three) where
      three_long : length three ≡ length work
      three_long = built.long ∙ two_long

      -- words past the table are as they were
      past : Unchanged (Behind (n + 1 + m)) two three
      past i l =
          let at : n + 1 + m + (i - (n + 1 + m)) ≡ i = omega arith in
          ap (λ (k : ℕ). get_or three k 0) (sym at) ∙
          sym (get_or-drop (n + 1 + m) three (i - (n + 1 + m)) 0) ∙
          ap (λ (l : List ℕ). get_or l (i - (n + 1 + m)) 0) built.beyond ∙
          get_or-drop (n + 1 + m) two (i - (n + 1 + m)) 0 ∙
          ap (λ (k : ℕ). get_or two k 0) at

      pub prepared : SetsPrepared n offsets targets within target work three base
      prepared =
          record {
            long = three_long;
            table = built_listed n offsets targets two three built;
            first =
                ap (λ (k : ℕ). take k (drop base three)) (sym given.within_size) ∙
                slice_alike s base one three (three_long ∙ sym one_long)
                (λ i l.
                past (base + i) (omega (arith, given.low)) ∙
                back_front (base + s) s one second one_fits second_long (base + i) (omega arith)) ∙
                back_part base s work first (omega (arith, given.high)) first_long ∙
                is-first;
            second =
                ap (λ (k : ℕ). take k (drop (base + s) three)) (sym given.within_size) ∙
                slice_alike s (base + s) two three (three_long ∙ sym two_long)
                (λ i l. past (base + s + i) (omega (arith, given.low))) ∙
                back_part (base + s) s one second one_fits second_long ∙
                is-second;
          }
