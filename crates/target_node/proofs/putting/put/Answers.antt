use Rattle.std.proofs.Common.{◌+◌, ◌∙◌, sym, length}
use Rattle.target_disk.specs.Draft.{put_len}
use Rattle.target_node.proofs.Pouring.{is_some, breaks, never_full}
use Rattle.target_node.proofs.putting.put.Goals as goal

pub returns-in-Ok : goal.returns-in-Ok
returns-in-Ok g c = record {
  stays = c.put.ensures.stays;
  later = c.put.ensures.later;
  flag = λ h. (c.in-Ok.ensures.flags h).1 ∙ sym (c.in-Ok.ensures.flags h).0;
  begun = is_some c.put.new.self.draft c.in-Ok.ensures.draft.0 c.in-Ok.ensures.draft.1;
  grows = c.in-Ok.ensures.grows;
  stands = c.in-Ok.ensures.stands;
  puts = c.in-Ok.ensures.puts;
}

pub returns-in-Err-Disk : goal.returns-in-Err-Disk
returns-in-Err-Disk g c =
    breaks (put_len c.args.store.now.draft + length c.args.piece.now) (g.D.Disk.shown c.args.store.now.disk) (g.D.Disk.shown c.put.new.self.disk) c.in-Err-Disk.field-0 c.in-Err-Disk.field-0-is
    c.put.ensures.stays c.put.ensures.later c.in-Err-Disk.ensures.causes c.in-Err-Disk.ensures.flags c.put.ensures.any_moment

pub unreachable-requires : goal.unreachable-requires
unreachable-requires g c =
    never_full (put_len c.args.store.now.draft + length c.args.piece.now) (g.D.Disk.shown c.args.store.now.disk).faults (g.D.Disk.shown c.put.new.self.disk).faults c.in-Err-Full.field-0-0 c.in-Err-Full.field-0 c.in-Err-Full.field-0-is
    c.requires.room c.in-Err-Full.ensures.causes
