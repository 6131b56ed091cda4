-- The units of a job, put together.
use Rattle.std.proofs.Common.{◌≡◌, ℕ, ◌<◌, ◌≤◌, Bool, cond, eqb, ltb, List, [], length, map, take, length-take, replicate, Some, None, Option, sym, ap, subst, ◌∙◌, ◌⊎◌, inl, inr, arith}
use Rattle.std.specs.Option.{option_map}
use Rattle.std.proofs.lemmas.Bool.{cases_lt, cond-true, cond-false, ne_eqb, lt-ltb, le-ltb, le-leb}
use Rattle.std.proofs.lemmas.List.{take-replicate}
use Rattle.word.specs.declared.sign.Sign.TheVariants.{Plus}
use Rattle.word.specs.declared.word.Word.{Word}
use Rattle.word.specs.Word.{word_of}
use Rattle.card.specs.Lines.{cards_of}
use Rattle.card.specs.Text.{card_of}
use Rattle.rack.specs.Transfers.{block_in, updated}
use Rattle.rack.specs.Units.{Holding, Holdings, standing_of}
use Rattle.rack.specs.declared.kind.Kind.TheVariants.{Tape}
use Rattle.rack.specs.declared.standing.Ring.TheVariants.{In}
use Rattle.racks.specs.Sides.{side_by_side}
use Rattle.paper.specs.Reader.{alone, cards_held, cards_loaded, nowhere}
use Rattle.paper.specs.Tray.{lines_held}
use Rattle.paper.specs.declared.device.Device.TheVariants.{Punch, Printer}
use Rattle.job_rack.specs.Units.{empty_tape, zero_disk, data_reader, store_units, job_units}

-- the stores, made one after the other
pub stores_made : (h0 h1 h2 h3 : Holdings) → ((u : ℕ) → h0 u ≡ None) → h1 ≡ updated h0 8 (Some zero_disk) → h2 ≡ updated h1 1 (Some empty_tape) → h3 ≡ updated h2 0 (Some empty_tape) → (u : ℕ) → h3 u ≡ store_units u
unfolding updated store_units
stores_made h0 h1 h2 h3 n a b c u =
    ap (λ (h : Holdings). h u) c
    ∙ ap (λ (o : Option Holding). cond (eqb u 0) (Some empty_tape) o)
    (ap (λ (h : Holdings). h u) b ∙ ap (λ (o : Option Holding). cond (eqb u 1) (Some empty_tape) o) (ap (λ (h : Holdings). h u) a ∙ ap (λ (o : Option Holding). cond (eqb u 8) (Some zero_disk) o) (n u)))

pub disk_made : (ws : List Word) → ws ≡ block_in [] Tape → record { capacity = 20; blocks = replicate 20 (Some ws); position = 0; ring = In } ≡ zero_disk
unfolding block_in
disk_made ws e = ap (λ (us : List Word). record { capacity = 20; blocks = replicate 20 (Some us); position = 0; ring = In }) (e ∙ take-replicate 100 100 (word_of Plus 0) (omega arith))

-- a tray that is there is not absent
pub tray_present : (g h : Holdings) (u : ℕ) (x : _) → (g ≡ nowhere) ⊎ (g ≡ h) → Some x ≡ option_map standing_of (g u) → g ≡ h
tray_present g h u x (inl e) s = let f : Some x ≡ None = s ∙ ap (λ (k : Holdings). option_map standing_of (k u)) e in cc
tray_present g h u x (inr e) s = e

-- reader, punch and printer side by side
abbrev rest_units : List (List ℕ) → Holdings
rest_units cards u =
    cond (eqb u 16) (Some (data_reader cards)) (
    cond (eqb u 17) (Some (lines_held Punch 200 [] In)) (
    cond (eqb u 18) (Some (lines_held Printer 200 [] In)) None))

rest_made : (p t a b c : Holdings) (cards : List (List ℕ)) → p ≡ side_by_side 17 a t → t ≡ side_by_side 18 b c → a ≡ alone 16 (Some (data_reader cards)) → b ≡ alone 17 (Some (lines_held Punch 200 [] In)) → c ≡ alone 18 (Some (lines_held Printer 200 [] In)) → (u : ℕ) → 16 ≤ u → p u ≡ rest_units cards u
unfolding side_by_side
rest_made p t a b c cards e f i j k u l = first (cases_lt u 17)
  where
    later : (17 ≤ u) → (u < 18) ⊎ (18 ≤ u) → p u ≡ rest_units cards u
    later m (inl n) =
        let v : u ≡ 17 = omega arith in
        subst (λ (x : ℕ). p x ≡ rest_units cards x) (sym v) (ap (λ (h : Holdings). h 17) e ∙ ap (λ (h : Holdings). h 17) f ∙ ap (λ (h : Holdings). h 17) j)
    later m (inr n) =
        ap (λ (h : Holdings). h u) e
        ∙ cond-false (ltb u 17) (a u) (t u) (le-ltb u 17 m)
        ∙ ap (λ (h : Holdings). h u) f
        ∙ cond-false (ltb u 18) (b u) (c u) (le-ltb u 18 n)
        ∙ ap (λ (h : Holdings). h u) k
        ∙ sym (cond-false (eqb u 17) (Some (lines_held Punch 200 [] In)) _ (ne_eqb u 17 (λ x. omega arith)))
        ∙ sym (cond-false (eqb u 16) (Some (data_reader cards)) _ (ne_eqb u 16 (λ x. omega arith)))

    first : (u < 17) ⊎ (17 ≤ u) → p u ≡ rest_units cards u
    first (inl n) =
        let v : u ≡ 16 = omega arith in
        subst (λ (x : ℕ). p x ≡ rest_units cards x) (sym v) (ap (λ (h : Holdings). h 16) e ∙ ap (λ (h : Holdings). h 16) i)
    first (inr n) = later n (cases_lt u 18)

-- all racks side by side
pub rack_made : (l p t a b c : Holdings) (cards : List (List ℕ)) → p ≡ side_by_side 17 a t → t ≡ side_by_side 18 b c → ((u : ℕ) → l u ≡ store_units u) → a ≡ alone 16 (Some (data_reader cards)) → b ≡ alone 17 (Some (lines_held Punch 200 [] In)) → c ≡ alone 18 (Some (lines_held Printer 200 [] In)) → (u : ℕ) → side_by_side 16 l p u ≡ job_units cards u
unfolding side_by_side job_units
rack_made l p t a b c cards e f s i j k u = at (cases_lt u 16)
  where
    at : (u < 16) ⊎ (16 ≤ u) → cond (ltb u 16) (l u) (p u) ≡ cond (ltb u 16) (store_units u) (rest_units cards u)
    at (inl n) = cond-true (ltb u 16) (l u) (p u) (lt-ltb u 16 n) ∙ s u ∙ sym (cond-true (ltb u 16) (store_units u) (rest_units cards u) (lt-ltb u 16 n))
    at (inr n) = cond-false (ltb u 16) (l u) (p u) (le-ltb u 16 n) ∙ rest_made p t a b c cards e f i j k u n ∙ sym (cond-false (ltb u 16) (store_units u) (rest_units cards u) (le-ltb u 16 n))

-- the reader of a text's first cards is there
pub reader_made : (text : List ℕ) (cards : List (List ℕ)) → cards_of text ≡ take 200 cards → cards_loaded 200 text ≡ Some (data_reader cards)
unfolding cards_loaded
reader_made text cards e =
    let l : length (cards_of text) ≤ 200 = omega (arith, ap length e, length-take 200 cards) in
    ap (λ (t : Bool). cond t (Some (cards_held 200 text 0)) None) (le-leb (length (cards_of text)) 200 l)
    ∙ ap (λ (cs : List (List ℕ)). Some (record { capacity = 200; blocks = map card_of cs; position = 0; ring = In })) e
