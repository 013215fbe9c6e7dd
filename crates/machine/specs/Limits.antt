-- The limits of document 01 on the machine of a file, by name; `threads` is in `Monitor`. Those on a file are in
-- `syntax/specs/Limits`.
use Rattle.std.specs.Prelude.{ℕ}

-- the regions of a file (5; R 6.18), and its guards, which are no more
abbrev pub most_regions : ℕ
most_regions = 16

-- the states of a file's variables (7; R 6.30)
abbrev pub most_states : ℕ
most_states = 4096

-- the states after bodies, of all regions at all states
abbrev pub most_after : ℕ
most_after = 65536

-- the entries of all regions and guards
abbrev pub most_entries : ℕ
most_entries = 256

-- the lines of a table, as no region has an entry for its own guard (R 7.8)
abbrev pub most_lines : ℕ
most_lines = 240
