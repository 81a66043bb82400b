-- The disks of a player are the same ones, whatever it does.
use Rattle.std.proofs.Common.{◌≡◌, ◌⊎◌, inl, inr, ◌+◌, ℕ, zero, suc, List, [], ◌∷◌, ◌++◌, length, refl, sym, ap, ◌∙◌, subst, arith, length-append}
use Rattle.std.proofs.lemmas.List.{length-map}
use Rattle.outside.specs.Disk.{Shown}
use Rattle.target_turns.specs.Disks.{Calls}
use Rattle.target_turns.specs.Target.{Target}
use Rattle.target_turns.specs.Touching.{Touches}
use Rattle.outside.specs.declared.status.Status.{Status}
use Rattle.outside.specs.declared.status.Status.TheVariants.{Done, Refused, Memory, Source, Sink}
use Rattle.line_player.specs.Played.{Runs, Played, RunsOver, RefusesLine, LacksEnd}
use Rattle.cluster_core.specs.Cluster.{AreTouched, disks_of, target_at}
use Rattle.cluster_player.specs.Played.{Playing, disks_in}
use Rattle.cluster_player.specs.Disks.{AreKept, disk_at}
use Rattle.cluster_player.specs.Taken.{player_rules, player_leaves, player_takes}

pub touches_self : (s : Shown) → Touches s s
touches_self s = record { stays = record { tells = refl; honest = refl; name = refl }; later = omega arith }

pub touches_next : (a b c : Shown) → Touches a b → Touches b c → Touches a c
touches_next a b c p q = record {
  stays = record { tells = q.stays.tells ∙ p.stays.tells; honest = q.stays.honest ∙ p.stays.honest; name = q.stays.name ∙ p.stays.name };
  later = (let l = p.later in let m = q.later in omega (arith, l, m));
}

pub kept_self : (ds : List Shown) → AreKept ds ds
kept_self ds = record { count = refl; each = λ i. touches_self (disk_at ds i) }

pub kept_next : (a b c : List Shown) → AreKept a b → AreKept b c → AreKept a c
kept_next a b c p q = record { count = q.count ∙ p.count; each = λ i. touches_next (disk_at a i) (disk_at b i) (disk_at c i) (p.each i) (q.each i) }

-- over any lines
pub runs_keep : (calls : Calls) (lines : List (List ℕ)) (old new : Playing) (text : List ℕ) → Runs (player_takes calls) old lines new text → AreKept (disks_in old) (disks_in new)
runs_keep calls [] old new text r = subst (λ (p : Playing). AreKept (disks_in old) (disks_in p)) (sym r.0) (kept_self (disks_in old))
runs_keep calls (line ∷ lines) old new text r =
    kept_next (disks_in old) (disks_in r.0) (disks_in new) r.3.1 (runs_keep calls lines r.0 new r.2 r.4)

leaves_keep : (calls : Calls) (lines : List (List ℕ)) (old mid new : Playing) (text : List ℕ) → Runs (player_takes calls) old lines mid text → (new ≡ mid) ⊎ player_leaves mid new → AreKept (disks_in old) (disks_in new)
leaves_keep calls lines old mid new text r (inl same) = subst (λ (p : Playing). AreKept (disks_in old) (disks_in p)) (sym same) (runs_keep calls lines old mid text r)
leaves_keep calls lines old mid new text r (inr left) = kept_next (disks_in old) (disks_in mid) (disks_in new) (runs_keep calls lines old mid text r) left.1

-- however the lines end
module _ (calls : Calls) (AtEnd : Type 0) (old new : Playing) where
  over_keeps : (read text : List ℕ) → RunsOver (player_rules calls old new) AtEnd read text → AreKept (disks_in old) (disks_in new)
  over_keeps read text x = leaves_keep calls x.lines old x.ran.0 new text x.ran.1 x.ran.2

  refused_keeps : (read text : List ℕ) → RefusesLine (player_rules calls old new) AtEnd read text ⊎ LacksEnd (player_rules calls old new) AtEnd read text → AreKept (disks_in old) (disks_in new)
  refused_keeps read text (inl x) = runs_keep calls x.lines old new x.before x.ran
  refused_keeps read text (inr x) = runs_keep calls x.lines old new x.before x.open_end.0

  pub plays_keep : (status : Status) (read text : List ℕ) → Played (player_rules calls old new) AtEnd status read text → AreKept (disks_in old) (disks_in new)
  plays_keep Done read text x = runs_keep calls x.lines old new text x.ended.0
  plays_keep Refused read text x = refused_keeps read text x
  plays_keep Memory read text x = over_keeps read text x
  plays_keep Source read text x = runs_keep calls x.lines old new text x.ran
  plays_keep Sink read text (more, inl x) = over_keeps read (text ++ more) x
  plays_keep Sink read text (more, inr x) = refused_keeps read (text ++ more) x

-- the disks of targets, and those behind them
all_at : (ts us : List Target) (spare : List Shown) → length us ≡ length ts → ((i : ℕ) → Touches (target_at ts i).disk (target_at us i).disk)
    → (i : ℕ) → Touches (disk_at (disks_of ts ++ spare) i) (disk_at (disks_of us ++ spare) i)
all_at [] [] spare size each i = touches_self (disk_at spare i)
all_at [] (u ∷ us) spare size each i = absurd (omega (arith, size))
all_at (t ∷ ts) [] spare size each i = absurd (omega (arith, size))
all_at (t ∷ ts) (u ∷ us) spare size each zero = each zero
all_at (t ∷ ts) (u ∷ us) spare size each (suc i) = all_at ts us spare (omega (arith, size)) (λ j. each (suc j)) i

all_length : (ts us : List Target) (spare : List Shown) → length us ≡ length ts → length (disks_of us ++ spare) ≡ length (disks_of ts ++ spare)
all_length ts us spare size =
    length-append (disks_of us) spare ∙ ap (λ n. n + length spare) (length-map us (λ t. t.disk) ∙ size ∙ sym (length-map ts (λ t. t.disk))) ∙ sym (length-append (disks_of ts) spare)

pub touched_kept : (ts us : List Target) (spare : List Shown) → AreTouched ts us → AreKept (disks_of ts ++ spare) (disks_of us ++ spare)
touched_kept ts us spare t = record { count = all_length ts us spare t.count; each = all_at ts us spare t.count t.each }
