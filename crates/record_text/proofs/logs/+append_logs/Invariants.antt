use Rattle.record_text.proofs.logs.+append_logs.Given as goal

abbrev pub decreases-append_logs : goal.decreases-append_logs
decreases-append_logs l = l.count
