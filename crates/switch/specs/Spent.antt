-- When a grant ticket may be let go.
use Rattle.std.specs.Prelude.{◌≡◌, true}
use Rattle.switch.specs.declared.tickets.GrantTicket.{GrantTicket}

-- a close has taken it in
abbrev pub IsSpent : GrantTicket → Type 0
IsSpent t = t.spent ≡ true
