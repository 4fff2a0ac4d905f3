use Rattle.fk_server.proofs.serving.serve_over.Goals as goal

pub returns-clause-served : goal.returns-clause-served
returns-clause-served g c =
    let (history, turned, session) = c.serve_session-ended.ensures in
    let last = c.serve_session-ended.new.kept in
    record {
      history = history;
      last = last.server;
      doubt = last.doubt;
      later_moments = last.moments;
      later_words = last.words;
      ended = c.serve_session-ended.result;
      is_status = c.status_of.ensures;
      between = c.stands.ensures.between;
      turned = rw (c.close-a.ensures.a, c.close-a.ensures.b) turned;
      session = rw (← c.bytes_of-password.ensures) session;
      sound = c.close-a.ensures.sound;
      reads = λ tell none. (c.close-a.ensures.reads
          (rw c.close-a.ensures.a at tell.0) (rw c.close-a.ensures.b at tell.1) none);
    }
