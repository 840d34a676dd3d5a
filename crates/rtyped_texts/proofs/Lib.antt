mod Having
