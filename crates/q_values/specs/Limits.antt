use Rattle.std.specs.Prelude.{◌≤◌, false}
use Rattle.q_values.specs.declared.limits.Limits.{Limits}

-- limits that every call takes
pub record AreLimits (limits : Limits) : Type 0 where
  pub chunk : limits.chunk ≤ 67108864
  pub symbol : limits.symbol ≤ 256
  pub names : limits.names ≤ 4194304
  pub day_rows : limits.day_rows ≤ 4294967295
  pub reply : limits.reply ≤ 2147483647
  pub idle : 1 ≤ limits.idle
  pub workers : 1 ≤ limits.workers

-- the limits that a plant has unless others are given
abbrev pub standard_limits : Limits
standard_limits = record {
  message = 16777216;
  greeting = 1024;
  reply = 1073741824;
  chunk = 67108864;
  symbol = 256;
  day_rows = 67108864;
  names = 4194304;
  idle = 4294967296;
  batch = false;
  workers = 4;
}
