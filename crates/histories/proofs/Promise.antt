-- The promise is kept.
use Rattle.histories.specs.Hosts.{host_functions}
use Rattle.histories.specs.Promise.{Promise}
use Rattle.histories.proofs.Functions.{met, known, free, cleared, stack_cleared, told, possible}
use Rattle.histories.proofs.Hosts.{host_told}
use Rattle.histories.proofs.Claim.{kept, claim, resumed, equal_words, host_claim, host_resumed, every_run}

pub promise : Promise
promise = record {
  met = met;
  known = known;
  free = free;
  told = told;
  kept = λ {s} {s'} {c} {r} t n. kept c (told t) n;
  cleared = cleared;
  stack_cleared = stack_cleared;
  possible = possible;
  every_run = every_run;
  every = claim;
  resumed = resumed;
  equal_words = equal_words;
  hosts = host_functions;
  host_told = host_told;
  host_kept = λ {s} {s'} {c} {r} t n. kept c (host_told t).performed n;
  host_every = host_claim;
  host_resumed = host_resumed;
}
