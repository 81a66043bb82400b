use Rattle.std.proofs.Common.{length, sym}
use Rattle.update_protocol.specs.Facts.{laid}
use Rattle.update_protocol.proofs.Given.{among_of, sound, written, takes_writes, object_written, key_moves, gone_with_owner, stays_there}
use Rattle.update_protocol.proofs.operations_have_laws.Goals as goal

pub returns : goal.returns
returns c =
    let sounds = c.histories_keep_trees_sound.ensures.histories in
    let ties = c.parts_are_of_written_objects.ensures in
    let parts = c.parts_are_of_targets.ensures in
    let objects = c.objects_stand_with_their_owners.ensures in
    let keys = c.keys_follow_objects.ensures in
    record {
      laws = λ targets count. record {
        looks_matter = c.only_looks_matter.ensures.decision;
        same_change = c.only_looks_matter.ensures.change;
        only_written = c.only_written_keys_change.ensures.stays;
        decided = c.the_step_is_decided_by_looks.ensures.decided;
        beside_tree = c.layouts_are_beside_the_tree.ensures.beside;
        same_parts = λ l m batch op agree. (parts.looks targets batch l m op agree).1;
        same_saw = λ l m op agree. c.objects_are_those_of_looks.ensures.saw targets l m op agree;
        takes_part = λ h batch op t fits is_op lt. sym (ties.shares targets (length h) batch (laid targets h) op t count fits.few (sound targets count sounds ties.names h fits) is_op);
        home_in = λ h batch op m fits is_op home. parts.home targets batch (laid targets h) op m count.0 home;
        on_is = λ h batch op fits is_op. (parts.on targets batch (laid targets h) op count.0).0;
        wrote_on = λ h batch op f fits is_op e. takes_writes targets count sounds ties.names c.written_objects_take_part.ensures.takes parts.each h batch op f fits e;
        wrote_near = λ h batch op f fits is_op e. c.objects_have_keys_of_their_owners.ensures.wrote targets (length h) (laid targets h) op f count (sound targets count sounds ties.names h fits) (written targets count sounds ties.names h batch op f fits e);
        looks_told = λ h op k f fits is_op looked stood. c.looks_are_told.ensures.told targets (laid targets h) op k f (among_of _ k looked) stood;
        writes_object = λ h batch op w k fits is_op written meet. object_written targets count sounds ties.names keys.writes h batch op w k fits (among_of _ w written) meet;
        moves = λ h batch op k fits is_op. key_moves targets count sounds ties.names keys.moves h batch op k fits;
        beside = λ h batch op f fits is_op e. objects.beside targets (length h) (laid targets h) op f count (sound targets count sounds ties.names h fits) (written targets count sounds ties.names h batch op f fits e);
        gone = λ h batch op f fits is_op e none. gone_with_owner targets count sounds ties.names objects.gone h batch op f fits e none;
        stays = λ h batch op f fits is_op e. stays_there targets count sounds ties.names objects.stays h batch op f fits e;
      };
    }
