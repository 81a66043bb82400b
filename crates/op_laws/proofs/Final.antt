-- The laws.
use Rattle.std.proofs.Common.{inl, inr, ⊎_elim, List, [], ◌∷◌, sym, ◌∙◌, true≢false}
use Rattle.tree_model.specs.Keys.{Key, Laid, layout_at}
use Rattle.tree_model.specs.Looks.{looks, changes}
use Rattle.tree_model.specs.Participants.{home_of, with_place}
use Rattle.tree_model.specs.Kept.{laid_step}
use Rattle.tree_model.specs.Laws.{Among}
use Rattle.op_laws.specs.Objects.{parts_of, stands, saw, wrote, written_by, owner}
use Rattle.op_laws.specs.Laws.{SameSaw, SameWrote, WroteOn, LooksTold, WritesObject, Moves, Beside, Gone, Stays, LooksHavePlaces, PartsAreThere, IsAsked, WroteNear, SawNear, TellsAreNear}
use Rattle.op_laws.proofs.Lists.{in_of, of_in, in_flat, from_flat, in_keys, each_in}
use Rattle.op_laws.proofs.Asked.{all_asked, part_there}
use Rattle.op_laws.proofs.Near.{asked_near, written_near}
use Rattle.op_laws.proofs.Ground.{ground}
use Rattle.op_laws.proofs.Walks.{op_good}
use Rattle.op_laws.proofs.Places.{moves, writes_object, beside, gone, stays}
use Rattle.op_laws.proofs.Alike.{same_saw, same_wrote}
use Rattle.op_laws.proofs.Targets.{written_takes}
use Rattle.tree_sound.proofs.Basics.{In}

pub same_saw_law : SameSaw
same_saw_law = same_saw

pub same_wrote_law : SameWrote
same_wrote_law = same_wrote

pub looks_told : LooksTold
looks_told targets l op k x a h = of_in (saw targets l op) x (in_flat (stands targets l) (looks targets l.tree op) k x (in_keys (looks targets l.tree op) k a) (in_of (stands targets l k) x h))

pub wrote_on : WroteOn
wrote_on targets most l op x count sound h =
    let good = op_good targets l op count.0 (ground targets most l sound) in
    let from = from_flat (written_by targets l) (changes targets l.tree op) x (in_of (wrote targets l op) x h) in
    let t = written_takes targets l count.0 count.1 (ground targets most l sound) (looks targets l.tree op) (changes targets l.tree op) good from.0 x from.1 from.2 in
    (t.0, t.1, t.2 (with_place 0 (home_of targets op)))

pub writes_object_law : WritesObject
writes_object_law targets most l op w k count sound a met =
    let good = op_good targets l op count.0 (ground targets most l sound) in
    let x = writes_object targets count.0 count.1 l (ground targets most l sound) (looks targets l.tree op) (changes targets l.tree op) good w k a met in
    (x.0, of_in (stands targets (laid_step targets l op) k) x.0 x.1, of_in (wrote targets l op) x.0 x.2)

pub moves_law : Moves
moves_law targets most l op k count sound =
    let good = op_good targets l op count.0 (ground targets most l sound) in
    let next : Laid = laid_step targets l op in
    ⊎_elim
    (λ same. inl (λ x h. of_in (stands targets next k) x (same x (in_of (stands targets l k) x h))))
    (λ moved. inr (
      λ x h. of_in (saw targets l op) x (moved.0 x (in_of (stands targets l k) x h)),
      (moved.1.0, of_in (stands targets next k) moved.1.0 moved.1.1, of_in (wrote targets l op) moved.1.0 moved.1.2),
    ))
    (moves targets count.0 count.1 l (ground targets most l sound) (looks targets l.tree op) (changes targets l.tree op) good k)

pub beside_law : Beside
beside_law targets most l op x count sound h =
    let good = op_good targets l op count.0 (ground targets most l sound) in
    let from = from_flat (written_by targets l) (changes targets l.tree op) x (in_of (wrote targets l op) x h) in
    ⊎_elim (λ told. inl (of_in (saw targets l op) x told)) (λ new. inr (new.0, of_in (saw targets l op) (owner targets x) new.1))
    (beside targets count.0 count.1 l (ground targets most l sound) (looks targets l.tree op) (changes targets l.tree op) good from.0 x from.1 from.2)

pub gone_law : Gone
gone_law targets most l op x count sound h absent =
    let good = op_good targets l op count.0 (ground targets most l sound) in
    let from = from_flat (written_by targets l) (changes targets l.tree op) x (in_of (wrote targets l op) x h) in
    of_in (wrote targets l op) (owner targets x) (gone targets count.0 count.1 l (ground targets most l sound) (looks targets l.tree op) (changes targets l.tree op) good from.0 x from.1 from.2 absent)

pub stays_law : Stays
stays_law targets most l op x count sound h =
    let good = op_good targets l op count.0 (ground targets most l sound) in
    stays targets count.0 count.1 l (ground targets most l sound) (looks targets l.tree op) (changes targets l.tree op) good x (λ m. absurd (true≢false (sym (of_in (wrote targets l op) x m) ∙ h)))

pub looks_placed : LooksHavePlaces
looks_placed targets most l op k count sound is a =
    each_in (IsAsked targets l) (looks targets l.tree op) k (all_asked targets l (ground targets most l sound) op is) (in_keys (looks targets l.tree op) k a)

pub parts_there : PartsAreThere
parts_there targets most l d x count sound dir h = part_there targets l (ground targets most l sound) d x count.0 count.1 dir (in_of (parts_of targets d (layout_at l d)) x h)

pub wrote_near : WroteNear
wrote_near targets most l op x count sound h =
    let good = op_good targets l op count.0 (ground targets most l sound) in
    let from = from_flat (written_by targets l) (changes targets l.tree op) x (in_of (wrote targets l op) x h) in
    written_near targets count.0 count.1 l (ground targets most l sound) (looks targets l.tree op) (changes targets l.tree op) good from.0 x from.1 from.2

keys_in : (ks : List Key) (k : Key) → In ks k → Among ks k
keys_in [] k h = h
keys_in (j ∷ js) k h = ⊎_elim (λ e. inl e) (λ m. inr (keys_in js k m)) h

pub saw_near : SawNear
saw_near targets most l op x count sound is h =
    let from = from_flat (stands targets l) (looks targets l.tree op) x (in_of (saw targets l op) x h) in (
      from.0,
      keys_in (looks targets l.tree op) from.0 from.1,
      asked_near targets count.0 count.1 l (ground targets most l sound) from.0 x (each_in (IsAsked targets l) (looks targets l.tree op) from.0 (all_asked targets l (ground targets most l sound) op is) from.1) from.2,
    )

pub tells_near : TellsAreNear
tells_near targets most more l op m next x count sound next_sound is w s =
    let a = wrote_near targets most l op x count sound w in
    let b = saw_near targets more m next x count next_sound is s in
    record { node = owner targets x; written = a.0; writes = a.1; one = a.3; of_written = a.2; looked = b.0; looks = b.1; of_looked = b.2 }
