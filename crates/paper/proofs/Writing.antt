-- What is tried on a text tray.
use Rattle.std.proofs.Common.{◌≡◌, ℕ, zero, suc, List, [], ◌∷◌, map, get_or, replicate, Some, None, Ok, Err, Option, Result, refl, sym, ap, subst, ◌∙◌}
use Rattle.std.specs.Prelude.{⊤, slice_get}
use Rattle.card.specs.Text.{text_words}
use Rattle.rack.specs.Transfers.{Leaves, Answer, After, block_in, if_ring, on_kind, on_unit, put_on, put_to, received, shift_of, shift_on, take_from, take_on, write_text}
use Rattle.rack.specs.Units.{Holding, Holdings, kind_of, text_in, columns}
use Rattle.rack.specs.declared.fault.UnitFault.{UnitFault}
use Rattle.rack.specs.declared.fault.UnitFault.TheVariants.{Absent, NotAllowed}
use Rattle.rack.specs.declared.kind.Kind.{Kind}
use Rattle.rack.specs.declared.unit.Unit.{Unit}
use Rattle.word.specs.declared.word.Word.{Word}
use Rattle.paper.specs.Lawful.{device_has}
use Rattle.paper.specs.Reader.{alone}
use Rattle.paper.specs.Tray.{device_kind, device_number, device_size, shown}
use Rattle.paper.specs.TrayRack.{lines_of, tray_units}
use Rattle.paper.specs.declared.device.Device.{Device}
use Rattle.paper.specs.declared.device.Device.TheVariants.{Punch, Printer}
use Rattle.paper.specs.declared.lines.Lines.{Lines}
use Rattle.paper.proofs.Alone.{alone_here, alone_updated, of_kind, rejected}

-- what no device allows
pub refused : (v : Unit) (o : Option Lines) (f : Kind → Holding → Answer) → ((d : Device) (h : Holding) → f (device_kind d) h ≡ Err (NotAllowed v)) → on_unit v f (tray_units o v.number) ≡ on_unit v (λ k h. Err (NotAllowed v)) (tray_units o v.number)
refused v None f h = refl
refused v (Some l) f h = of_kind (device_number l.device) (device_kind l.device) v f (λ _. Err (NotAllowed v)) (Some (lines_of l)) (device_has l.device) (h l.device)

-- a Put on either device
put_text : (v : Unit) (a : ℕ) (ws : List Word) (d : Device) (h : Holding) → put_on v a ws (device_kind d) h ≡ if_ring v h.ring (write_text v ws h)
put_text v a ws Punch h = refl
put_text v a ws Printer h = refl

left_after : (v : Unit) (n m : ℕ) (g h : Holding) (a : Answer) (r : Result ⊤ UnitFault) → v.number ≡ n → m ≡ n → Leaves a g h r → After v a (alone n (Some g)) (alone m (Some h)) r
left_after v n m g h (Ok e) (Ok x) p q l =
    ap (λ (k : ℕ). alone k (Some h)) q ∙ ap (λ (k : Holding). alone n (Some k)) l ∙ alone_updated n v.number (Some g) (Some e.holding) p
left_after v n m g h (Ok e) (Err f) p q l = l
left_after v n m g h (Err f) (Ok x) p q l = l
left_after v n m g h (Err f) (Err k) p q l = (l.0, ap (λ (i : ℕ). alone i (Some h)) q ∙ ap (λ (k : Holding). alone n (Some k)) l.1)

pub put_done : (v : Unit) (a : ℕ) (area : List Word) (o : Option Lines) (l m : Lines) (r : Result ⊤ UnitFault) → o ≡ Some l → v.number ≡ device_number l.device → m.device ≡ l.device → Leaves (if_ring v l.ring (write_text v (block_in area (device_kind l.device)) (lines_of l))) (lines_of l) (lines_of m) r → After v (put_to v a area (tray_units o v.number)) (tray_units o) (tray_units (Some m)) r
unfolding put_to
put_done v a area o l m r s p q h = subst (λ (x : Option Lines). After v (put_to v a area (tray_units x v.number)) (tray_units x) (tray_units (Some m)) r) (sym s) here
  where
    here : After v (put_to v a area (tray_units (Some l) v.number)) (tray_units (Some l)) (tray_units (Some m)) r
    here =
        let d = l.device in
        let e =
        ap (on_unit v (λ k. put_on v a (block_in area k) k)) (alone_here (device_number d) v.number (Some (lines_of l)) p)
        ∙ ap (on_kind v (λ k. put_on v a (block_in area k) k) (lines_of l)) (ap kind_of p ∙ device_has d)
        ∙ put_text v a (block_in area (device_kind d)) d (lines_of l) in
        subst (λ (b : Answer). After v b (tray_units (Some l)) (tray_units (Some m)) r) (sym e)
        (left_after v (device_number d) (device_number m.device) (lines_of l) (lines_of m) _ r p (ap device_number q) h)

-- and on an absent unit
pub put_absent : (v : Unit) (a : ℕ) (area : List Word) (h : Option Holding) (old new : Holdings) → h ≡ None → new ≡ old → After v (put_to v a area h) old new (Err (Absent v))
unfolding put_to
put_absent v a area h old new e s = subst (λ (o : Option Holding). After v (put_to v a area o) old new (Err (Absent v))) (sym e) (refl, s)

-- the text of a block is its line
pub line_shown : (d : Device) (ls : List (List ℕ)) (p : ℕ) → map (shown d) ls ≡ ls → columns (text_in (slice_get (map (text_words (device_size d)) ls) p)) ≡ get_or ls p (replicate 120 32)
unfolding columns
line_shown d [] p e = refl
line_shown d (l ∷ ls) zero e = let f : shown d l ≡ l = cc in f
line_shown d (l ∷ ls) (suc p) e = line_shown d ls p (let f : map (shown d) ls ≡ ls = cc in f)

-- a tray allows neither a Take nor a Shift
untaken : (v : Unit) (a : ℕ) (o : Option Lines) (x : UnitFault) → Err x ≡ on_unit v (λ k h. Err (NotAllowed v)) (tray_units o v.number) → take_from v a (tray_units o v.number) ≡ Err x
unfolding take_from
untaken v a o x e = refused v o (take_on v a) (elim [ Punch ↦ λ h. refl | Printer ↦ λ h. refl ]) ∙ sym e

pub no_take : (v : Unit) (a : ℕ) (o : Option Lines) (x : UnitFault) → Err x ≡ on_unit v (λ k h. Err (NotAllowed v)) (tray_units o v.number) → After v (take_from v a (tray_units o v.number)) (tray_units o) (tray_units o) (Err x)
no_take v a o x e = rejected v _ x (tray_units o) (untaken v a o x e)

pub area_stays : (v : Unit) (a : ℕ) (o : Option Lines) (x : UnitFault) (area : List Word) → Err x ≡ on_unit v (λ k h. Err (NotAllowed v)) (tray_units o v.number) → area ≡ received (take_from v a (tray_units o v.number)) area
area_stays v a o x area e = sym (ap (λ (b : Answer). received b area) (untaken v a o x e))

pub no_shift : (v : Unit) (m : Word) (o : Option Lines) (x : UnitFault) → Err x ≡ on_unit v (λ k h. Err (NotAllowed v)) (tray_units o v.number) → After v (shift_of v m (tray_units o v.number)) (tray_units o) (tray_units o) (Err x)
unfolding shift_of
no_shift v m o x e = rejected v _ x (tray_units o) (refused v o (shift_on v m) (elim [ Punch ↦ λ h. refl | Printer ↦ λ h. refl ]) ∙ sym e)
