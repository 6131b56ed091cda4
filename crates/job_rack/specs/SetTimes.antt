-- The times that settings have.
use Rattle.std.specs.Prelude.{ℕ, List, Option}
use Rattle.job_rack.specs.declared.settings.Settings.{Settings}

-- the times that are set, by the numbers of the units
abbrev pub set_times : Settings → List (Option ℕ)
set_times s = s.set
