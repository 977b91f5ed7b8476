-- The version of the C calls.
use Rattle.std.specs.Prelude.{ℕ, ◌+◌, ◌*◌}

-- a version's three numbers as one: 1.2.3 is 10203. The second and the third stay below 100, so that later versions have larger numbers
abbrev pub version_number : ℕ → ℕ → ℕ → ℕ
version_number major minor patch = 10000 * major + 100 * minor + patch

-- the version of these calls
abbrev pub version : ℕ
version = version_number 1 3 0
