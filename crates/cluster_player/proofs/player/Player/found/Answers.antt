use Rattle.std.proofs.Common.{◌≡◌, ◌++◌, List, Option, map, ap, ◌∙◌, subst, sym}
use Rattle.outside.specs.Disk.{Shown}
use Rattle.target_turns.specs.Disks.{calls_of}
use Rattle.cluster_core.specs.Cored.{Cored, unmade}
use Rattle.cluster_core.specs.Cluster.{disks_of}
use Rattle.cluster_player.specs.Played.{Playing, disks_in, cluster_in, spare_in}
use Rattle.cluster_player.specs.Disks.{AreKept}
use Rattle.cluster_player.proofs.Whole.{founded_does, founded_kept, founded_whole, not_made}
use Rattle.cluster_player.proofs.player.Player.found.Goals as goal

pub invariant_of-self : goal.invariant_of-self
invariant_of-self g c =
    let inside = c.self.inside in
    let ds = map g.D.Disk.shown inside.disks.items in
    let none = not_made inside.cluster inside.core (ap (λ (p : Playing). p.count) c.self.view_is ∙ c.requires.comes.comes) c.self.invariant.made in
    founded_whole inside.cluster inside.requests inside.core ds (map g.D.Disk.shown c.replace-disks.new.dest.items) inside.spent c.is_err-self-inside.result c.args.cluster c.in-Ok.core c.found-founded.new.self
    c.self.invariant (ap (λ (p : Playing). p.spent) c.self.view_is ∙ c.requires.going) none c.requires.fits.1
    (c.in-Ok.ensures.ok ∙ ap (λ v. unmade c.args.cluster (map g.D.Disk.shown v.items)) c.replace-disks.ensures.value) c.found-founded.ensures.keeps

pub returns-in-Ok-clause-does : goal.returns-in-Ok-clause-does
returns-in-Ok-clause-does g c =
    let inside = c.self.inside in
    let ds = map g.D.Disk.shown inside.disks.items in
    let none = not_made inside.cluster inside.core (ap (λ (p : Playing). p.count) c.self.view_is ∙ c.requires.comes.comes) c.self.invariant.made in
    let view : Playing = record { count = inside.cluster; ended = inside.ended; messages = inside.requests; cluster = cluster_in inside.core; spare = spare_in inside.core ds; spent = inside.spent } in
    founded_does (calls_of g.D.Disk.cycled g.D.Plant.armed) c.found-founded.result c.is_err-self-inside.result c.args.cluster c.in-Ok.core c.found-founded.new.self view c.args.self.now c.args.lines.now c.found-founded.new.lines
    c.found-founded.ensures.does c.is_err-self-inside.ensures.value
    (c.in-Ok.ensures.ok ∙ ap (λ v. unmade c.args.cluster (map g.D.Disk.shown v.items)) c.replace-disks.ensures.value ∙ ap (λ (x : Option Cored). unmade c.args.cluster (spare_in x ds)) (sym none))
    c.found-founded.ensures.keeps (ap (λ (p : Playing). p.spent) c.self.view_is ∙ c.requires.going) c.self.view_is

pub returns-in-Ok-clause-kept : goal.returns-in-Ok-clause-kept
returns-in-Ok-clause-kept g c =
    let inside = c.self.inside in
    let ds = map g.D.Disk.shown inside.disks.items in
    let new = c.found-founded.new.self in
    let none = not_made inside.cluster inside.core (ap (λ (p : Playing). p.count) c.self.view_is ∙ c.requires.comes.comes) c.self.invariant.made in
    let whole : ds ≡ disks_in c.args.self.now = ap (λ (x : Option Cored). disks_of (cluster_in x).targets ++ spare_in x ds) (sym none) ∙ ap disks_in c.self.view_is in
    subst (λ (x : List Shown). AreKept x (disks_of new.cluster.targets ++ new.spare)) whole
    (founded_kept c.args.cluster c.in-Ok.core new ds (c.in-Ok.ensures.ok ∙ ap (λ v. unmade c.args.cluster (map g.D.Disk.shown v.items)) c.replace-disks.ensures.value) c.found-founded.ensures.keeps)
