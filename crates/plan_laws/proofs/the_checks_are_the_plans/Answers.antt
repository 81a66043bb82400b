use Rattle.plan_laws.proofs.Deciding.{create_matches, mkdir_matches, rmdir_matches, setxattr_matches, lookup_matches, link_matches, unlink_matches, setattr_matches, delxattr_matches, getattr_matches, getxattr_matches}
use Rattle.plan_laws.proofs.Renaming.{rename_matches}
use Rattle.plan_laws.proofs.Migrating.{migrate_matches}
use Rattle.plan_laws.proofs.the_checks_are_the_plans.Goals as goal

pub returns-clause-create : goal.returns-clause-create
returns-clause-create c = create_matches

pub returns-clause-mkdir : goal.returns-clause-mkdir
returns-clause-mkdir c = mkdir_matches

pub returns-clause-rmdir : goal.returns-clause-rmdir
returns-clause-rmdir c = rmdir_matches

pub returns-clause-setxattr : goal.returns-clause-setxattr
returns-clause-setxattr c = setxattr_matches

pub returns-clause-lookup : goal.returns-clause-lookup
returns-clause-lookup c = lookup_matches

pub returns-clause-rename : goal.returns-clause-rename
returns-clause-rename c = rename_matches

pub returns-clause-migrate : goal.returns-clause-migrate
returns-clause-migrate c = migrate_matches

pub returns-clause-link : goal.returns-clause-link
returns-clause-link c = link_matches

pub returns-clause-unlink : goal.returns-clause-unlink
returns-clause-unlink c = unlink_matches

pub returns-clause-setattr : goal.returns-clause-setattr
returns-clause-setattr c = setattr_matches

pub returns-clause-delxattr : goal.returns-clause-delxattr
returns-clause-delxattr c = delxattr_matches

pub returns-clause-getattr : goal.returns-clause-getattr
returns-clause-getattr c = getattr_matches

pub returns-clause-getxattr : goal.returns-clause-getxattr
returns-clause-getxattr c = getxattr_matches
