-- The words of each fault stand in one line.
use Rattle.std.proofs.Common.{◌++◌, codes, rules}
use Rattle.fk_frame.specs.Replies.{IsOneLine}
use Rattle.fk_job.specs.declared.fault.JobFault.{JobFault}
use Rattle.fk_job.specs.declared.fault.JobFault.TheVariants.{NoJid, ShortJid, NoType, NoArgs, BadQueue, BadReserve, BadRetry, BadAt, Syntax, TooDeep, NoMemory}
use Rattle.fk_model.specs.Payloads.{fault_text}

pub refused_in_one_line : (fault : JobFault) → IsOneLine (codes "ERR " ++ fault_text fault)
refused_in_one_line (Syntax at) = search rules
refused_in_one_line (TooDeep at) = search rules
refused_in_one_line NoJid = search rules
refused_in_one_line ShortJid = search rules
refused_in_one_line NoType = search rules
refused_in_one_line NoArgs = search rules
refused_in_one_line BadQueue = search rules
refused_in_one_line BadReserve = search rules
refused_in_one_line BadRetry = search rules
refused_in_one_line BadAt = search rules
refused_in_one_line NoMemory = search rules
