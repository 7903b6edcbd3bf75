-- The version of the library, as a number.
use Rattle.std.specs.Prelude.{ℕ, ◌+◌, ◌*◌}

-- a version by its three numbers, each below 1,000
abbrev pub version_of : ℕ → ℕ → ℕ → ℕ
version_of major minor patch = 1000000 * major + 1000 * minor + patch

-- 0.2.0, as python/pespbench/VERSION has it; a test compares them
abbrev pub version : ℕ
version = version_of 0 2 0
