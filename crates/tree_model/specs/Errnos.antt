-- The numbers that Linux gives errors.
use Rattle.std.specs.Prelude.{ℕ}
use Rattle.tree_model.specs.declared.errno.Errno.{Errno}
use Rattle.tree_model.specs.declared.errno.Errno.TheVariants.{EPERM, ENOENT, EEXIST, ENOTDIR, EISDIR, EINVAL, EFBIG, ENOSPC, EMLINK, ENOTEMPTY, ELOOP, ENODATA}

abbrev pub errno_code : Errno → ℕ
errno_code EPERM = 1
errno_code ENOENT = 2
errno_code EEXIST = 17
errno_code ENOTDIR = 20
errno_code EISDIR = 21
errno_code EINVAL = 22
errno_code EFBIG = 27
errno_code ENOSPC = 28
errno_code EMLINK = 31
errno_code ENOTEMPTY = 39
errno_code ELOOP = 40
errno_code ENODATA = 61
