-- Worked scenarios in a cluster of eight targets: on which targets operations are, which layouts migrates leave,
-- and which parts of a history may be kept.
use Rattle.std.specs.Prelude.{ℕ, List, [], ◌∷◌, Some, None, codes}
use Rattle.fid_space.specs.declared.fid.Fid.{Fid}
use Rattle.fid_space.specs.Targets.{joined}
use Rattle.tree_model.specs.declared.op.Op.{Op}
use Rattle.tree_model.specs.declared.op.Op.TheVariants.{Create, Mkdir, SetAttr, Migrate}
use Rattle.tree_model.specs.declared.reply.Reply.TheVariants.{Ok}
use Rattle.tree_model.specs.Tree.{root_fid}
use Rattle.tree_model.specs.History.{Item}

-- the set of these targets
abbrev pub these : List ℕ → ℕ
these [] = 0
these (t ∷ ts) = joined (these ts) t

-- a file's FID on target 2, another one there, a directory's on target 3, and one of a directory with stripes on target 1
abbrev pub file_fid : Fid
file_fid = record { seq = 0x200200400; oid = 1; ver = 0 }

abbrev pub other_fid : Fid
other_fid = record { seq = 0x200200400; oid = 2; ver = 0 }

abbrev pub directory_fid : Fid
directory_fid = record { seq = 0x200300400; oid = 1; ver = 0 }

abbrev pub striped_fid : Fid
striped_fid = record { seq = 0x200100400; oid = 1; ver = 0 }

-- a directory that stands elsewhere than its parent, which is on target 0
abbrev pub mkdir_elsewhere : Op
mkdir_elsewhere = Mkdir root_fid (codes "d") directory_fid None

-- two stripes, from target 4 on
abbrev pub striped_mkdir : Op
striped_mkdir = Mkdir root_fid (codes "s") striped_fid (Some (2, 4))

abbrev pub create_in_stripe : Op
create_in_stripe = Create striped_fid (codes "x") file_fid

-- one stripe on target 7, and then none
abbrev pub first_migrate : Op
first_migrate = Migrate striped_fid 1 7

abbrev pub second_migrate : Op
second_migrate = Migrate striped_fid 0 0

-- an operation that was done
abbrev pub done : ℕ → Op → Item
done number op = record { request = record { number = number; client = 0; op = op }; reply = Ok }

abbrev pub striped : List Item
striped = done 1 striped_mkdir ∷ []

abbrev pub migrated : List Item
migrated = done 1 striped_mkdir ∷ done 2 first_migrate ∷ []

abbrev pub migrated_twice : List Item
migrated_twice = done 1 striped_mkdir ∷ done 2 first_migrate ∷ done 3 second_migrate ∷ []

-- two files of one directory, neither of which depends on the other
abbrev pub two_files : List Item
two_files = done 1 (Create root_fid (codes "f") file_fid) ∷ done 2 (Create root_fid (codes "g") other_fid) ∷ []

-- a file whose directory was given other attributes before
abbrev pub file_behind_setattr : List Item
file_behind_setattr = done 1 (SetAttr root_fid 0o700 0 0) ∷ done 2 (Create root_fid (codes "g") other_fid) ∷ []

-- a client may not make the root
abbrev pub never_done : List Item
never_done = done 1 (Create root_fid (codes "f") root_fid) ∷ []
